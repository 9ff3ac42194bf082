-- Filling byte by byte. Assumes nothing.
use Rattle.std.proofs.Common.{◌≡◌, ℕ, ◌+◌, ◌-◌, ◌<◌, ◌≤◌, true, List, [], ◌∷◌, ◌++◌, length, get_or, take, drop, set, replicate, Some, None, Option, sym, refl, ap, ◌∙◌, append_assoc, append-nil, add-zero, arith}
use Rattle.std.specs.Option.{option_map}
use Rattle.std.proofs.lemmas.List.{get_or-drop, get_or-take, drop-drop, drop-set-lt, drop_more, drop_all, take_more_set, length-set, length-take-le}
use Rattle.message.specs.declared.form.Form.{Form}
use Rattle.message.specs.declared.values.Values.{Values}
use Rattle.message.specs.Filling.{fitting, filled_byte, filled, fill_tree}
use Rattle.message.specs.Forms.{text}
use Rattle.message.specs.Trees.{Tree, and_then, form_of, is_form, closed, message_of}
use Rattle.message.specs.Values.{value_in}
use Rattle.message.proofs.Binding.{value_fits}
use Rattle.message.proofs.OneValue.{items_length}
use Rattle.message.proofs.Filled.{filled_form, none_filled, filled_closed, closed_message}

-- the bytes before the place i are filled, and the others are as they were
pub record FilledTo (form : Form) (values : Values) (memory : List ℕ) (i : ℕ) : Type 0 where
  pub whole : length memory ≡ 24
  pub left : drop i memory ≡ drop i form.bytes.memory
  pub done : option_map (λ cs. take i memory ++ cs) (filled (value_in values) (drop i (text form))) ≡ filled (value_in values) (text form)

-- one byte more at the end of the front
push : (xs : List ℕ) (c : ℕ) (o : Option (List ℕ)) → option_map (λ cs. xs ++ cs) (option_map (λ cs. c ∷ cs) o) ≡ option_map (λ cs. (xs ++ c ∷ []) ++ cs) o
push xs c None = refl
push xs c (Some cs) = ap Some (sym (append_assoc xs (c ∷ []) cs))

values_fit : (values : Values) (v : ℕ) → fitting v (value_in values v) ≡ true
values_fit values = value_fits values.atoms values.fit

module _ (form : Form) (values : Values) (memory : List ℕ) (i : ℕ) (so : FilledTo form values memory i) where
  module _ (h : i < form.bytes.count) where
    -- the byte at the place is still that of the form
    here : get_or memory i 0 ≡ get_or (text form) i 0
    here =
        let at : (l : List ℕ) → get_or (drop i l) 0 0 ≡ get_or l i 0 = λ l. get_or-drop i l 0 0 ∙ ap (λ n. get_or l n 0) (add-zero i) in
        sym (at memory) ∙ ap (λ l. get_or l 0 0) so.left ∙ at form.bytes.memory ∙ sym (get_or-take form.bytes.count form.bytes.memory i 0 h)

    -- what the next byte gives
    first : (a : Option ℕ) → a ≡ filled_byte (value_in values) (get_or memory i 0)
        → filled (value_in values) (drop i (text form)) ≡ and_then a (λ c. option_map (λ cs. c ∷ cs) (filled (value_in values) (drop (i + 1) (text form))))
    first a is =
        ap (filled (value_in values)) (drop_more (text form) i 0 (omega (arith, items_length form.bytes)))
        ∙ ap (λ b. and_then (filled_byte (value_in values) b) (λ c. option_map (λ cs. c ∷ cs) (filled (value_in values) (drop (i + 1) (text form))))) (sym here)
        ∙ ap (λ a. and_then a (λ c. option_map (λ cs. c ∷ cs) (filled (value_in values) (drop (i + 1) (text form))))) (sym is)

    -- one byte more
    pub fill_more : (c : ℕ) → Some c ≡ filled_byte (value_in values) (get_or memory i 0) → FilledTo form values (set memory i c) (i + 1)
    fill_more c is = record {
      whole = length-set memory i c ∙ so.whole;
      left = drop-set-lt (i + 1) memory i c (omega arith) ∙ sym (drop-drop 1 i memory) ∙ ap (drop 1) so.left ∙ drop-drop 1 i form.bytes.memory;
      done =
          ap (λ front. option_map (λ cs. front ++ cs) (filled (value_in values) (drop (i + 1) (text form)))) (take_more_set memory i c (omega (arith, so.whole, form.bytes.fits)))
          ∙ sym (push (take i memory) c (filled (value_in values) (drop (i + 1) (text form))))
          ∙ ap (option_map (λ cs. take i memory ++ cs)) (sym (first (Some c) is))
          ∙ so.done;
    }

    -- a variable with no value
    pub fill_stops : None ≡ filled_byte (value_in values) (get_or memory i 0) → filled (value_in values) (text form) ≡ None
    fill_stops is = sym so.done ∙ ap (option_map (λ cs. take i memory ++ cs)) (first None is)

  module _ (at : i ≡ form.bytes.count) where
    -- no byte is left
    pub fill_all : filled (value_in values) (text form) ≡ Some (take form.bytes.count memory)
    fill_all =
        sym so.done
        ∙ ap (λ rest. option_map (λ cs. take i memory ++ cs) (filled (value_in values) rest)) (drop_all i (text form) (omega (arith, items_length form.bytes)))
        ∙ ap Some (append-nil (take i memory) ∙ ap (λ n. take n memory) at)

    -- the zeros after the form are as they were
    pub fill_padded : drop form.bytes.count memory ≡ replicate (24 - length (take form.bytes.count memory)) 0
    fill_padded =
        let few : form.bytes.count ≤ length memory = omega (arith, so.whole, form.bytes.fits) in
        ap (λ n. drop n memory) (sym at) ∙ so.left ∙ ap (λ n. drop n form.bytes.memory) at ∙ form.padded
        ∙ ap (λ n. replicate (24 - n) 0) (items_length form.bytes ∙ sym (length-take-le form.bytes.count memory few))

    -- the filled bytes are a form with no variable
    pub fill_closed : (is_form (take form.bytes.count memory) ≡ true) × (closed (take form.bytes.count memory) ≡ true)
    fill_closed = filled_closed (value_in values) (values_fit values) (text form) (take form.bytes.count memory) form.reads fill_all

    -- and the message that the filled form is
    pub fill_read : (t : Tree) → form_of (text form) ≡ Some t → (u : Tree) × (fill_tree (value_in values) t ≡ Some u) × (message_of (take form.bytes.count memory) ≡ Some u)
    fill_read t is =
        let found = filled_form (value_in values) (values_fit values) (text form) t is (take form.bytes.count memory) fill_all in
        (found.0, found.1, closed_message (take form.bytes.count memory) found.0 found.2 found.3)

-- where the bytes cannot be filled, neither can the form
pub fill_none : (form : Form) (values : Values) → filled (value_in values) (text form) ≡ None → (t : Tree) → form_of (text form) ≡ Some t → fill_tree (value_in values) t ≡ None
fill_none form values none t is = none_filled (value_in values) (values_fit values) (text form) t is none
