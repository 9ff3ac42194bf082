-- What each byte stands for: atoms of five kinds, the variables of each kind, the two signs that build forms.
use Rattle.std.specs.Prelude.{ℕ, ◌+◌, ◌-◌, ◌%◌, Bool, true, false, cond, Some, None, Option, ◌==◌, nat_lt}
use Rattle.message.specs.declared.kind.Kind.{Kind}
use Rattle.message.specs.declared.kind.Kind.TheVariants.{Name, Nonce, Data, SharedKey, PairKey}
use Rattle.message.specs.declared.kind.Symbol.{Symbol}
use Rattle.message.specs.declared.kind.Symbol.TheVariants.{Atom, Variable, Join, Lock, Unused}

-- what a byte stands for: below 70 the atoms of the five kinds, from 80 to CF sixteen variables for each kind,
-- then F0, which joins two forms, and F1, which locks one; the bytes between mean nothing
abbrev pub symbol : ℕ → Symbol
symbol b =
    cond (nat_lt b 0x20) (Atom Name) (
    cond (nat_lt b 0x40) (Atom Nonce) (
    cond (nat_lt b 0x50) (Atom Data) (
    cond (nat_lt b 0x60) (Atom SharedKey) (
    cond (nat_lt b 0x70) (Atom PairKey) (
    cond (nat_lt b 0x80) Unused (
    cond (nat_lt b 0x90) (Variable Name) (
    cond (nat_lt b 0xA0) (Variable Nonce) (
    cond (nat_lt b 0xB0) (Variable Data) (
    cond (nat_lt b 0xC0) (Variable SharedKey) (
    cond (nat_lt b 0xD0) (Variable PairKey) (
    cond (b == 0xF0) Join (
    cond (b == 0xF1) Lock Unused))))))))))))

abbrev pub is_key_kind : Kind → Bool
is_key_kind Name = false
is_key_kind Nonce = false
is_key_kind Data = false
is_key_kind SharedKey = true
is_key_kind PairKey = true

abbrev pub stands_for_atom : Symbol → Bool
stands_for_atom (Atom k) = true
stands_for_atom (Variable k) = false
stands_for_atom Join = false
stands_for_atom Lock = false
stands_for_atom Unused = false

abbrev pub stands_for_variable : Symbol → Bool
stands_for_variable (Atom k) = false
stands_for_variable (Variable k) = true
stands_for_variable Join = false
stands_for_variable Lock = false
stands_for_variable Unused = false

abbrev pub stands_for_key : Symbol → Bool
stands_for_key (Atom k) = is_key_kind k
stands_for_key (Variable k) = false
stands_for_key Join = false
stands_for_key Lock = false
stands_for_key Unused = false

abbrev pub can_lock : Symbol → Bool
can_lock (Atom k) = is_key_kind k
can_lock (Variable k) = is_key_kind k
can_lock Join = false
can_lock Lock = false
can_lock Unused = false

unfoldable pub is_atom : ℕ → Bool
is_atom b = stands_for_atom (symbol b)

unfoldable pub is_variable : ℕ → Bool
is_variable b = stands_for_variable (symbol b)

-- an atom that is a key
unfoldable pub is_key : ℕ → Bool
is_key b = stands_for_key (symbol b)

-- a key, or a variable that stands for one: what may stand in a lock
unfoldable pub is_locking : ℕ → Bool
is_locking b = can_lock (symbol b)

-- a shared key opens its own locks; pair keys go in twos, an even one and the next, and each opens what the other locks
abbrev pub inverse_of : ℕ → Option ℕ
inverse_of b = cond (nat_lt b 0x50) None (cond (nat_lt b 0x60) (Some b) (cond (nat_lt b 0x70) (Some (cond (b % 2 == 0) (b + 1) (b - 1))) None))
