use Rattle.std.proofs.Common.{◌≡◌, ℕ, List, None, Some, Option, sym, refl, ◌∙◌, subst, ⊎_elim, arith}
use Rattle.std.proofs.lemmas.List.{take_rest}
use Rattle.message.proofs.Reading.{Says, says_empty, says_atom, says_variable, says_unused, join_no_left, join_both, lock_alone, lock_refused, lock_inside}
use Rattle.message.proofs.reader.+form_length.Goals as goal

-- what is said of a byte and the rest is said of all bytes, and of an answer that is the same
said : {bs all : List ℕ} {r given : Option ℕ} → all ≡ bs → given ≡ r → Says bs r → Says all given
said {bs} {all} {r} {given} same is says = subst (λ bs. Says bs given) (sym same) (subst (Says bs) (sym is) says)

pub returns-in_err-first-clause-reads : goal.returns-in_err-first-clause-reads
returns-in_err-first-clause-reads t c = said refl c.from_residual.ensures (says_empty c.args.bytes.now c.in_err-first.ensures.cases)

pub returns-in-Atom-clause-reads : goal.returns-in-Atom-clause-reads
returns-in-Atom-clause-reads t c =
    let b = c.in_ok-first.first.now in
    let rest = c.in_ok-first.rest.now in
    let told = sym c.from.ensures.value in
    said c.in_ok-first.ensures.cases.0 refl (⊎_elim (λ a. says_atom b rest a.0 (told ∙ a.1)) (λ v. says_variable b rest v.0 (told ∙ v.1)) c.in-Atom.is)

pub returns-in-Unused-clause-reads : goal.returns-in-Unused-clause-reads
returns-in-Unused-clause-reads t c = said c.in_ok-first.ensures.cases.0 refl (says_unused c.in_ok-first.first.now c.in_ok-first.rest.now (sym c.in-Unused.ensures.value))

pub returns-in_err-left-in-Join-clause-reads : goal.returns-in_err-left-in-Join-clause-reads
returns-in_err-left-in-Join-clause-reads t c =
    said c.in_ok-first.ensures.cases.0 c.from_residual-in_err-left-in-Join.ensures
    (join_no_left c.in_ok-first.first.now c.in_ok-first.rest.now (sym c.in-Join.ensures.value) c.in_err-left-in-Join.ensures.reads)

pub returns-in_err-right-in-Join-clause-reads : goal.returns-in_err-right-in-Join-clause-reads
returns-in_err-right-in-Join-clause-reads t c =
    let rest = c.in_ok-first.rest.now in
    let l = c.in_ok-left-in-Join.left in
    said c.in_ok-first.ensures.cases.0 c.from_residual-in_err-right-in-Join.ensures
    (join_both c.in_ok-first.first.now rest (sym c.in-Join.ensures.value) l None c.in_ok-left-in-Join.ensures.reads (subst (λ bs. Says bs None) (take_rest rest l) c.in_err-right-in-Join.ensures.reads))

pub returns-in_ok-right-in-Join-clause-reads : goal.returns-in_ok-right-in-Join-clause-reads
returns-in_ok-right-in-Join-clause-reads t c =
    let rest = c.in_ok-first.rest.now in
    let l = c.in_ok-left-in-Join.left in
    let r = Some c.in_ok-right-in-Join.right in
    said c.in_ok-first.ensures.cases.0 refl
    (join_both c.in_ok-first.first.now rest (sym c.in-Join.ensures.value) l r c.in_ok-left-in-Join.ensures.reads (subst (λ bs. Says bs r) (take_rest rest l) c.in_ok-right-in-Join.ensures.reads))

pub returns-in_default-clause-reads : goal.returns-in_default-clause-reads
returns-in_default-clause-reads t c = said c.in_ok-first.ensures.cases.0 refl (lock_alone c.in_ok-first.first.now c.in_ok-first.rest.now (sym c.in-Lock.ensures.value) (omega arith))

pub returns-in_default-2-clause-reads : goal.returns-in_default-2-clause-reads
returns-in_default-2-clause-reads t c =
    said c.in_ok-first.ensures.cases.0 refl (lock_refused c.in_ok-first.first.now c.in_ok-first.rest.now (omega arith) (sym c.in-Lock.ensures.value) (sym c.if-can_lock.ensures.value))

pub returns-in_err-form_length-in-len1-up-clause-reads : goal.returns-in_err-form_length-in-len1-up-clause-reads
returns-in_err-form_length-in-len1-up-clause-reads t c =
    let rest = c.in_ok-first.rest.now in
    said c.in_ok-first.ensures.cases.0 c.from_residual-in_err-form_length-in-len1-up.ensures
    (lock_inside c.in_ok-first.first.now rest (omega arith) (sym c.in-Lock.ensures.value) (sym c.if-can_lock.ensures.value) None (subst (λ bs. Says bs None) (take_rest rest 1) c.in_err-form_length-in-len1-up.ensures.reads))

pub returns-in_ok-form_length-in-len1-up-clause-reads : goal.returns-in_ok-form_length-in-len1-up-clause-reads
returns-in_ok-form_length-in-len1-up-clause-reads t c =
    let rest = c.in_ok-first.rest.now in
    let r = Some c.in_ok-form_length-in-len1-up.field-0 in
    said c.in_ok-first.ensures.cases.0 refl
    (lock_inside c.in_ok-first.first.now rest (omega arith) (sym c.in-Lock.ensures.value) (sym c.if-can_lock.ensures.value) r (subst (λ bs. Says bs r) (take_rest rest 1) c.in_ok-form_length-in-len1-up.ensures.reads))
