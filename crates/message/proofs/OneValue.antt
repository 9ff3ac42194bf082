-- A row, a form and a message is one value for what it holds. Assumes nothing.
use Rattle.std.proofs.Common.{◌≡◌, ℕ, ◌-◌, ◌≤◌, true, ◌++◌, length, replicate, sym, ap, ◌∙◌, arith, take-append-drop}
use mathlib.Core.HLevel.{is_prop→PathP}
use native.Mathlib.Bridge.{le_prop}
use base.Stored.{coded_ℕ, coded_bool, coded_list}
use denote.Struct.Props.{≡_prop}
use Rattle.std.proofs.lemmas.List.{length-take-le}
use Rattle.message.specs.declared.form.Form.{Form}
use Rattle.message.specs.declared.row.Row.{Row}
use Rattle.message.specs.Forms.{text, OneForm}
use Rattle.message.specs.Messages.{OneMessage}
use Rattle.message.specs.Rows.{items_in, rest_of}
use Rattle.message.specs.Trees.{is_form, closed}

module _ {T : Type 0} {N : ℕ} where
  pub items_length : (row : Row T N) → length (items_in row) ≡ row.count
  items_length row = length-take-le row.count row.memory (omega (arith, row.whole, row.fits))

  -- the memory is the items and the rest
  whole_memory : (row : Row T N) → row.memory ≡ items_in row ++ rest_of row
  whole_memory row = sym (take-append-drop row.count row.memory)

  module _ (a b : Row T N) (items : items_in a ≡ items_in b) (rest : rest_of a ≡ rest_of b) where
    same_count : a.count ≡ b.count
    same_count = sym (items_length a) ∙ ap length items ∙ items_length b

    same_memory : a.memory ≡ b.memory
    same_memory = whole_memory a ∙ ap (λ l. l ++ rest_of a) items ∙ ap (λ l. items_in b ++ l) rest ∙ sym (whole_memory b)

    pub one_row : a ≡ b
    one_row = λ i. record {
      memory = same_memory i;
      count = same_count i;
      whole = is_prop→PathP (λ i. length (same_memory i) ≡ N) (λ i. ≡_prop coded_ℕ (length (same_memory i)) N) a.whole b.whole i;
      fits = is_prop→PathP (λ i. same_count i ≤ N) (λ i. le_prop) a.fits b.fits i;
    }

pub text_short : (form : Form) → length (text form) ≤ 24
text_short form = omega (arith, items_length form.bytes, form.bytes.fits)

module _ (a b : Form) (same : text a ≡ text b) where
  same_row : a.bytes ≡ b.bytes
  same_row = one_row a.bytes b.bytes same (a.padded ∙ ap (λ l. replicate (24 - length l) 0) same ∙ sym b.padded)

  pub one_form_at : a ≡ b
  one_form_at = λ i. record {
    bytes = same_row i;
    padded = is_prop→PathP (λ i. rest_of (same_row i) ≡ replicate (24 - length (items_in (same_row i))) 0) (λ i. ≡_prop (coded_list coded_ℕ) (rest_of (same_row i)) (replicate (24 - length (items_in (same_row i))) 0)) a.padded b.padded i;
    reads = is_prop→PathP (λ i. is_form (items_in (same_row i)) ≡ true) (λ i. ≡_prop coded_bool (is_form (items_in (same_row i))) true) a.reads b.reads i;
  }

pub one_form : OneForm
one_form = one_form_at

pub one_message : OneMessage
one_message a b same =
    let form = one_form_at a.form b.form same in
    λ i. record { form = form i; fixed = is_prop→PathP (λ i. closed (text (form i)) ≡ true) (λ i. ≡_prop coded_bool (closed (text (form i))) true) a.fixed b.fixed i }
