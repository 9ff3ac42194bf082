use Rattle.std.proofs.Common.{◌≡◌, ℕ, suc, ◌+◌, ◌-◌, ◌<◌, ◌≤◌, length, None}
use Rattle.exchange.specs.Checks.{blank, reading}
use Rattle.exchange.specs.Views.{exchange_of}
use Rattle.exchange.proofs.loading.read_fields.Given as goal

abbrev pub invariant-loop-last : goal.invariant-loop-last
invariant-loop-last l = (l.at ≤ length l.file) × ((n : ℕ) × (length l.file < n + l.at) × (reading n l.file l.at l.last (exchange_of l.draft) ≡ reading (suc (length l.file)) l.file 0 None blank))

abbrev pub decreases-loop-last : goal.decreases-loop-last
decreases-loop-last l = length l.file - l.at
