-- What a line says.
use Rattle.std.specs.Prelude.{ℕ, true, false, List, [], ◌∷◌, Some, None, vec_items, codes, Option, ◌==◌}
use Rattle.std.specs.Str.{bytes_eq}
use Rattle.command.specs.declared.Command.{Command}
use Rattle.command.specs.declared.Command.TheVariants.{Hear, Ask, Back, Nothing, Unknown}
use Rattle.command.specs.Line.{unreturned, word_of, rest_of}
use Rattle.command.specs.Values.{hex_bytes, number_in}

-- what a line can say
pub data Saying : Type 0 where
  hear : List ℕ → Saying
  ask : List ℕ → Saying
  back : ℕ → Saying
  nothing : Saying
  unknown : Saying

-- a command, with its bytes as a list
abbrev pub seen : Command → Saying
seen (Hear v) = hear (vec_items v)
seen (Ask v) = ask (vec_items v)
seen (Back n) = back n
seen Nothing = nothing
seen Unknown = unknown

-- f of a value that was read, and unknown where none was
abbrev pub saying : {A : Type 0} → (A → Saying) → Option A → Saying
saying f None = unknown
saying f (Some x) = f x

-- what the first word of a line says with the rest of it
abbrev pub spoken : List ℕ → List ℕ → Saying
spoken word rest =
    elim (bytes_eq word (codes "hear")) [
      | true ↦ saying hear (hex_bytes rest)
      | false ↦ elim (bytes_eq word (codes "ask")) [
        | true ↦ saying ask (hex_bytes rest)
        | false ↦ elim (bytes_eq word (codes "back")) [
          | true ↦ saying back (number_in rest)
          | false ↦ unknown
        ]
      ]
    ]

-- what a line says that is rid of its carriage return: nothing if it is empty or begins with # (35)
abbrev pub said : List ℕ → Saying
said [] = nothing
said (x ∷ xs) = elim (x == 35) [ true ↦ nothing | false ↦ spoken (word_of (x ∷ xs)) (rest_of (x ∷ xs)) ]

-- what a line says
abbrev pub command_of : List ℕ → Saying
command_of line = said (unreturned line)
