-- What is known at a moment of a session: its starting values, and the steps that came before.
use Rattle.std.specs.Prelude.{◌≡◌, Bool, List, map}
use Rattle.std.specs.Borrow.{Bor}
use Rattle.exchange.specs.declared.following.Moment.{Moment}
use Rattle.message.specs.declared.form.Form.{Form}
use Rattle.exchange.specs.declared.step.Step as code
use Rattle.exchange.specs.Exchanges.{Step, Binding}
use Rattle.exchange.specs.Parts.{step_of}
use Rattle.exchange.specs.Sessions.{starts_in}

abbrev pub starts_at : Moment → List Binding
starts_at m = starts_in m.session.now

abbrev pub steps_before : Moment → List Step
steps_before m = map step_of m.before.now

-- what a closure answers of a moment and a step is this test of them
abbrev pub Asks : (List Binding → List Step → Step → Bool) → (Bor Moment → Bor (code.Step Form) → Bool → Type 0) → Type 0
Asks test answers = (m : Bor Moment) (s : Bor (code.Step Form)) (r : Bool) → answers m s r → r ≡ test (starts_at m.now) (steps_before m.now) (step_of s.now)
