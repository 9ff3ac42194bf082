use Rattle.std.proofs.Common.{◌≡◌, ℕ, ◌≤◌, List, length, ⊎_elim, Some, Ok, Err, Option, IfOk, sym, refl, ap, ◌∙◌, subst}
use Rattle.std.proofs.lemmas.Bool.Decides.{leb_tells}
use Rattle.exchange.specs.declared.refusal.Refusal.{Refusal}
use Rattle.exchange.specs.Answers.{answer_to}
use Rattle.exchange.specs.Checks.{Outcome, accepted, refused, loads}
use Rattle.exchange.specs.Exchanges.{Exchange}
use Rattle.exchange.specs.Files.{file_bytes}
use Rattle.exchange.specs.Stores.{held, held_after}
use Rattle.exchange.specs.Views.{exchange_of}
use Rattle.exchange.proofs.Loads.{loads_long}
use Rattle.exchange_show.specs.Report.{accepted_text, outcome_text}
use Rattle.exchange_show.proofs.report.report.Goals as goal

-- a file that is accepted is no longer than a file may be
short : (file : List ℕ) (x : Exchange) → loads file ≡ accepted x → length file ≤ 8192
short file x is = ⊎_elim (λ t. t.1) (λ f. let refusal = loads_long file f.1 in cc) (leb_tells (length file) 8192)

-- where loading answers Ok, the exchange that was read is held
taken : (o : Outcome) (before : Option Exchange) {after : Option Exchange} → Ok tt ≡ answer_to o → after ≡ held_after before o → (x : Exchange) × (o ≡ accepted x) × (after ≡ Some x)
taken (accepted x) before ok kept = (x, refl, kept)
taken (refused stop place) before ok kept = cc

-- where it answers Err, that is the refusal
stopped : (o : Outcome) (e : Refusal) → Err e ≡ answer_to o → o ≡ refused e.stop e.place
stopped (accepted x) e is = cc
stopped (refused stop place) e is = let same : record { stop = stop; place = place } ≡ e = cc in ap (λ r. refused r.stop r.place) same

-- so what is shown is what the file says
said : (file : List ℕ) (x : Exchange) {e : Exchange} {size : Option ℕ} → loads file ≡ accepted x → e ≡ x → size ≡ Some (length (file_bytes x)) → accepted_text e size ≡ outcome_text (loads file)
said file x is same whole = (λ i. accepted_text (same i) (whole i)) ∙ sym (ap outcome_text is)

pub returns-in-Some : goal.returns-in-Some
returns-in-Some c =
    let file = c.args.file.now in
    let (x, is, kept) = taken (loads file) (held c.in_ok-store.store) (sym c.in-Ok.is ∙ c.load.ensures.answer) c.load.ensures.held in
    let size = c.written_size.ensures.same x kept (c.load.ensures.lossless.1 file x is).1 (short file x is) in
    let same : exchange_of c.in-Some.exchange.now ≡ x = cc (c.in-Some.ensures.value, kept) in
    record { text = subst (λ l. IfOk c.show_exchange.result (λ v. v.items ≡ l)) (said file x is same size) c.show_exchange.ensures.text }

pub returns : goal.returns
returns c = record { text = rw (stopped (loads c.args.file.now) c.in-Err.refusal c.in-Err.ensures.answer) c.show_refusal.ensures.text }
