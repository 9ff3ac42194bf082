-- The text of each answer, and what a refusal is answered by.
use Rattle.std.specs.Prelude.{ℕ, Bool, cond, List, [], ◌++◌, Ok, Err, codes, decimal, Result}
use Rattle.message.specs.declared.stop.Stop.{Stop}
use Rattle.message.specs.Stops.{number_of}
use Rattle.can_make.specs.declared.answer.Answer.{Answer}
use Rattle.can_make.specs.declared.answer.Answer.TheVariants.{Heard, Makes, Refused, NotUnderstood, Nothing}

abbrev pub yes_or_no : Bool → List ℕ
yes_or_no b = cond b (codes "yes") (codes "no")

-- the line that is printed, without its end; of Nothing no line is printed
abbrev pub words : Answer → List ℕ
words (Heard n) = codes "heard " ++ decimal n
words (Makes full repeater) = codes "full " ++ (yes_or_no full ++ (codes ", repeater " ++ yes_or_no repeater))
words (Refused stop) = codes "refused " ++ decimal (number_of stop)
words (NotUnderstood line) = codes "line " ++ (decimal line ++ codes " not understood")
words Nothing = []

-- a refusal is an answer too
abbrev pub settled : Result Answer Stop → Answer
settled (Ok answer) = answer
settled (Err stop) = Refused stop
