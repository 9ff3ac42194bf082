-- What a call adds to a text.
use Rattle.std.specs.Prelude.{◌≡◌, ℕ, List, ◌++◌, Result, OnOk}

-- where the call answers Ok, the words stand after what the text was before
abbrev pub Puts : {A E : Type 0} → Result A E → List ℕ → List ℕ → List ℕ → Type 0
Puts r before after words = OnOk r (after ≡ before ++ words)
