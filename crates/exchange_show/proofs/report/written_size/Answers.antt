use Rattle.std.proofs.Common.{◌≡◌, ℕ, Bool, true, false, leb, List, ◌++◌, length, take, drop, replicate, Some, None, Ok, Err, Option, Result, IfSome, sym, ap, ◌∙◌, refl}
use Rattle.std.specs.Bool.{then_some}
use Rattle.std.specs.Result.{result_ok}
use Rattle.std.proofs.Math.Seq.{take-append_seam}
use Rattle.std.proofs.lemmas.Slice.Eq.{bytes_eq-Decides}
use Rattle.message.specs.declared.stop.Stop.{Stop}
use Rattle.message.specs.declared.stop.Stop.TheVariants.{BufferTooSmall}
use Rattle.exchange.specs.Exchanges.{Exchange}
use Rattle.exchange.specs.Files.{file_bytes}
use Rattle.exchange.specs.Stores.{held, file_answer, file_written, write_answer, written}
use Rattle.exchange_show.proofs.report.written_size.Goals as goal

-- a write that answers n leaves the file in front, and the file has n bytes
filled : (bs out : List ℕ) {new : List ℕ} (n : ℕ) → result_ok (file_answer bs out) ≡ Some n → new ≡ file_written bs out → (n ≡ length bs) × (take n new ≡ bs)
filled bs out {new} n = by (leb (length bs) (length out))
  where
    by : (t : Bool) → result_ok (elim t as (λ _. Result ℕ Stop) [ true ↦ Ok (length bs) | false ↦ Err BufferTooSmall ]) ≡ Some n → new ≡ elim t as (λ _. List ℕ) [ true ↦ bs ++ drop (length bs) out | false ↦ out ] → (n ≡ length bs) × (take n new ≡ bs)
    by true answer left = let size : n ≡ length bs = cc in (size, (λ i. take (size i) (left i)) ∙ take-append_seam bs (drop (length bs) out))
    by false answer left = cc

-- so something is held, and it is its file
wrote : (h : Option Exchange) (out : List ℕ) {new : List ℕ} (n : ℕ) → result_ok (write_answer h out) ≡ Some n → new ≡ written h out → (x : Exchange) × (h ≡ Some x) × (n ≡ length (file_bytes x)) × (take n new ≡ file_bytes x)
wrote None out n answer left = cc
wrote (Some x) out n answer left = let (size, front) = filled (file_bytes x) out n answer left in (x, refl, size, front)

-- n is answered only where the test holds
tested : (P : ℕ → Type 0) (t : Bool) (n : ℕ) → (t ≡ true → P n) → IfSome (then_some t n) P
tested P true n h = h refl
tested P false n h = tt

pub returns-clause-only : goal.returns-clause-only
returns-clause-only c =
    let n = c.in_ok-n.n in
    let file = c.args.file.now in
    let (x, holds, size, front) = wrote (held c.args.store.now) (replicate 8192 0) n (ap result_ok (sym c.write.ensures.answer) ∙ (sym c.ok.ensures.value ∙ c.in_ok-n.was)) c.write.ensures.bytes in
    rw c.then_some.ensures (tested _ c.eq.result n (λ e. (x, holds, sym front ∙ (bytes_eq-Decides (take n c.write.new.out) file).0 (sym c.eq.ensures ∙ e), size)))

pub returns-clause-same : goal.returns-clause-same
returns-clause-same c x holds is short =
    let n = c.in_ok-n.n in
    let file = c.args.file.now in
    let (y, other, size, front) = wrote (held c.args.store.now) (replicate 8192 0) n (ap result_ok (sym c.write.ensures.answer) ∙ (sym c.ok.ensures.value ∙ c.in_ok-n.was)) c.write.ensures.bytes in
    let same : y ≡ x = cc in
    let equal = c.eq.ensures ∙ (bytes_eq-Decides (take n c.write.new.out) file).1 (front ∙ (ap file_bytes same ∙ is)) in
    c.then_some.ensures ∙ (ap (λ t. then_some t n) equal ∙ ap Some (size ∙ ap (λ z. length (file_bytes z)) same))
