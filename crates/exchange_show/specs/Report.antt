-- What is printed of a file.
use Rattle.std.specs.Prelude.{ℕ, List, ◌++◌, length, Some, None, codes, decimal, Option}
use Rattle.message.specs.Stops.{number_of}
use Rattle.exchange.specs.Checks.{Outcome, accepted, refused, loads}
use Rattle.exchange.specs.Exchanges.{Exchange}
use Rattle.exchange.specs.Files.{file_bytes}
use Rattle.listing.specs.Listing.{listing_text}
use Rattle.listing.specs.Words.{newline}

-- the last line: how long the exchange's file is; without a length where that is not the file that was read
abbrev pub end_line : Option ℕ → List ℕ
end_line (Some n) = codes "file of " ++ (decimal n ++ (codes " bytes" ++ newline))
end_line None = codes "file differs" ++ newline

-- the listing of an exchange, after a word that it is accepted
abbrev pub accepted_text : Exchange → Option ℕ → List ℕ
accepted_text x size = codes "accepted" ++ (newline ++ (listing_text x ++ end_line size))

-- an exchange with the length of its file; or the number of a refusal and the place where the file was refused
abbrev pub outcome_text : Outcome → List ℕ
outcome_text (accepted x) = accepted_text x (Some (length (file_bytes x)))
outcome_text (refused stop place) = codes "refused " ++ (decimal (number_of stop) ++ (codes " at " ++ (decimal place ++ newline)))

abbrev pub report_text : List ℕ → List ℕ
report_text file = outcome_text (loads file)
