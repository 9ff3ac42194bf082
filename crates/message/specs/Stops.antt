-- The number of each stop, the one list that every promise about a refusal uses.
use Rattle.std.specs.Prelude.{ℕ}
use Rattle.message.specs.declared.stop.Stop.{Stop}
use Rattle.message.specs.declared.stop.Stop.TheVariants.{FileTooLong, Incomplete, MisplacedTag, WrongLength, BadLabel, NotOneForm, VariableInMessage, UndeclaredAtom, NotAscending, LimitPassed, PartMissing, OutOfRange, UnboundVariable, WrongKind, TooManyNewVariables, BufferTooSmall, NoExchange, NoAllowance, TotalTooLarge, AlreadyFinished, NotBroken, NotClosedForm, HeardEnough, AboveCount, LineNotPermitted, ClaimHolds, NoSuchClaim}

abbrev pub number_of : Stop → ℕ
number_of FileTooLong = 1
number_of Incomplete = 2
number_of MisplacedTag = 3
number_of WrongLength = 4
number_of BadLabel = 5
number_of NotOneForm = 6
number_of VariableInMessage = 7
number_of UndeclaredAtom = 8
number_of NotAscending = 9
number_of LimitPassed = 10
number_of PartMissing = 11
number_of OutOfRange = 12
number_of UnboundVariable = 13
number_of WrongKind = 14
number_of TooManyNewVariables = 15
number_of BufferTooSmall = 16
number_of NoExchange = 21
number_of NoAllowance = 22
number_of TotalTooLarge = 23
number_of AlreadyFinished = 24
number_of NotBroken = 25
number_of NotClosedForm = 31
number_of HeardEnough = 32
number_of AboveCount = 33
number_of LineNotPermitted = 41
number_of ClaimHolds = 42
number_of NoSuchClaim = 43
