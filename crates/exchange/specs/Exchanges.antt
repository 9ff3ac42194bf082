-- What an exchange is: declared atoms, opening messages, roles, sessions and claims. Forms and messages are their bytes.
use Rattle.std.specs.Prelude.{ℕ, List}

-- an atom and the label that it is shown by
pub record Declaration : Type 0 where
  pub atom : ℕ
  pub label : List ℕ

-- what a role does at one of its lines; a begin and an end have a mark
pub data Step : Type 0 where
  sends : List ℕ → Step
  receives : List ℕ → Step
  begins : ℕ → List ℕ → Step
  ends : ℕ → List ℕ → Step

-- a variable and the atom that it has from the start
pub record Binding : Type 0 where
  pub variable : ℕ
  pub atom : ℕ

-- a role, by its number, with values for some of its variables
pub record Session : Type 0 where
  pub role : ℕ
  pub starts : List Binding

-- what an exchange is claimed to keep: a secret message; the value of a session's variable; that a mark's ends match
-- its begins; that each end has a begin of its own
pub data Claim : Type 0 where
  secret : List ℕ → Claim
  session_secret : ℕ → ℕ → Claim
  matched : ℕ → Claim
  matched_once : ℕ → Claim

-- roles, sessions and claims count from 0; a role is its steps
pub record Exchange : Type 0 where
  pub atoms : List Declaration
  pub opening : List (List ℕ)
  pub roles : List (List Step)
  pub sessions : List Session
  pub claims : List Claim
