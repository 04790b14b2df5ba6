-- One element of a phrase after another.
-- Assumes nothing.
use Prim.Native.Nat.{ℕ, zero, suc, ◌+◌, ◌-◌, ◌/◌, ◌%◌, ◌^◌, ◌≤◌, ◌<◌, min}
use Rattle.std.specs.Int.{w64, to_be_bytes}
use native.Mathlib.Numerals.{add-one}
use native.Mathlib.Omega.{arith}
use mathlib.Core.Path.{◌≡◌, refl, sym, ap, ◌∙◌}
use mathlib.Core.Bool.{Bool, true, false, cond}
use mathlib.Core.List.{List, [], ◌∷◌, ◌++◌}
use lib.ListN.{length, get_or, drop, get_or-eq_default, drop_of_length-le}
use lib.Seq.{drop-cons, drop-drop, get_or-drop}
use borrow.Author.Tests.{ne_eqb, lt-ltb, le-ltb}
use Rattle.lexemes.specs.Classes.{«name», «questionid», «step», «default», «TRUE», «FALSE», NAME}
use Rattle.lexemes.specs.Lexemes.{lexemes, signs, reserved}
use Rattle.elements.specs.Kinds.{OPTION_FLAGS, TRUTH, FLAG_LIST, NUMERIC_FLAGS, H8, H4, H2, MAYBE, GROUP}
use Rattle.answers.specs.Text.{Word, lexeme, decimal, truth, text_of}
use Rattle.rows.specs.Columns as column
use Rattle.print.specs.declared.phrase.Progress.{Progress}
use Rattle.spellings.specs.declared.output.Output.{Output}
use Rattle.spellings.specs.Printed.{Printed}
use Rattle.print.specs.Phrase.{element_words, numeric_flags, element_of, shown_by, has_flags, has_default, GUID, value_from, one_more}
use Rattle.print.specs.Phrase.{added, skip_after, passed_after, phrase_from, shown_in, element_in}
use Rattle.print.specs.Steps.{left_of, Entered, Stepped}
use Rattle.spellings.proofs.Outputs.{text_append}
use Rattle.spellings.proofs.Printing.{printed_none}

-- ---- what an element is printed as

pub truth_true : {v : ℕ} → v ≡ 1 → lexeme «TRUE» ≡ truth v
unfolding lexemes signs reserved
truth_true e = rw e

pub truth_false : {v : ℕ} → (v ≡ 1 → ⊥) → lexeme «FALSE» ≡ truth v
unfolding lexemes signs reserved
truth_false {v} h = rw (ne_eqb v 1 h, truth)

pub other_element : (e v : ℕ)
    → (((((((Unit {0}) × (e ≡ NAME → ⊥)) × (e ≡ OPTION_FLAGS → ⊥)) × (e ≡ TRUTH → ⊥)) × (e ≡ FLAG_LIST → ⊥)) × (e ≡ H8 → ⊥)) × (e ≡ H4 → ⊥)) × (e ≡ H2 → ⊥)
    → decimal v ≡ element_words e v
unfolding element_words
other_element e v h =
    rw (
      ne_eqb e NAME h.0.0.0.0.0.0.1,
      ne_eqb e OPTION_FLAGS h.0.0.0.0.0.1,
      ne_eqb e TRUTH h.0.0.0.0.1,
      ne_eqb e FLAG_LIST h.0.0.0.1,
      ne_eqb e H8 h.0.0.1,
      ne_eqb e H4 h.0.1,
      ne_eqb e H2 h.1,
    )

-- an element of a row: a numeric's FL, or one of the value from a source
module _ (r : List ℕ) (e source : ℕ) where
  pub numeric_element :
      {set n : ℕ} → e ≡ NUMERIC_FLAGS → set ≡ get_or r column.FLAGS 0 → n ≡ get_or r column.SIZE 0 → numeric_flags set n ≡ element_of r e source
  unfolding element_of
  numeric_element k f g = rw (k, f, g)

  pub value_element : {v : ℕ} → (e ≡ NUMERIC_FLAGS → ⊥) → v ≡ value_from r source → element_words e v ≡ element_of r e source
  unfolding element_of
  value_element h f = rw (ne_eqb e NUMERIC_FLAGS h, f)

pub other_shown : (f d : Bool) (w : ℕ)
    → ((((Unit {0}) × (w ≡ «name» → ⊥)) × (w ≡ «questionid» → ⊥)) × (w ≡ «step» → ⊥)) × (w ≡ «default» → ⊥) → f ≡ shown_by f d w
other_shown f d w h = rw (ne_eqb w «name» h.0.0.0.1, ne_eqb w «questionid» h.0.0.1, ne_eqb w «step» h.0.1, ne_eqb w «default» h.1)

-- ---- values

pub column_value : (r : List ℕ) (s : ℕ) → s < GUID → get_or r s 0 ≡ value_from r s
unfolding value_from
column_value r s h = rw (lt-ltb s GUID h)

abbrev guid_parts : ℕ → ℕ → List ℕ
guid_parts a b =
    a / 2 ^ 32 ∷ a / 2 ^ 16 % 2 ^ 16 ∷ a % 2 ^ 16
    ∷ b / 256 ^ 7 % 256 ∷ b / 256 ^ 6 % 256 ∷ b / 256 ^ 5 % 256 ∷ b / 256 ^ 4 % 256 ∷ b / 256 ^ 3 % 256 ∷ b / 256 ^ 2 % 256 ∷ b / 256 % 256
    ∷ []

pub last_byte : (r : List ℕ) (s : ℕ) → GUID + 10 ≤ s → get_or r column.B 0 % 256 ≡ value_from r s
unfolding value_from
last_byte r s h =
    let a = get_or r column.A 0 in
    let b = get_or r column.B 0 in
    rw (le-ltb s GUID (omega arith)) (same ∙ sym (get_or-eq_default (guid_parts a b) (b / 256 ^ 0 % 256) {n = s - GUID} (omega arith)))
  where
    same : get_or r column.B 0 % 256 ≡ get_or r column.B 0 / 256 ^ 0 % 256
    same = omega arith

-- the byte of the GUID that has so many before it
abbrev be_byte : List ℕ → ℕ → ℕ
be_byte r k = get_or (to_be_bytes w64 (get_or r column.B 0)) k 0

byte_is : (r : List ℕ) (k : ℕ) → be_byte r (min k 7) ≡ value_from r (GUID + 3 + k)
unfolding value_from
byte_is r zero = omega arith
byte_is r (suc zero) = omega arith
byte_is r (suc (suc zero)) = omega arith
byte_is r (suc (suc (suc zero))) = omega arith
byte_is r (suc (suc (suc (suc zero)))) = omega arith
byte_is r (suc (suc (suc (suc (suc zero))))) = omega arith
byte_is r (suc (suc (suc (suc (suc (suc zero)))))) = omega arith
byte_is r (suc (suc (suc (suc (suc (suc (suc k))))))) =
    let late : min (suc (suc (suc (suc (suc (suc (suc k))))))) 7 ≡ 7 = omega arith in
    rw late (last_byte r (GUID + 3 + suc (suc (suc (suc (suc (suc (suc k))))))) (omega arith))

pub guid_byte : (r bs : List ℕ) (b s k : ℕ) → b ≡ get_or r column.B 0 → bs ≡ to_be_bytes w64 b → GUID + 3 ≤ s → k ≡ min (s - GUID - 3) 7 → get_or bs k 0 ≡ value_from r s
guid_byte r bs b s k c f h e = let at : GUID + 3 + (s - GUID - 3) ≡ s = omega arith in
    ap (λ (l : List ℕ). get_or l k 0) (f ∙ ap (λ (n : ℕ). to_be_bytes w64 n) c) ∙ ap (be_byte r) e ∙ byte_is r (s - GUID - 3) ∙ ap (value_from r) at

-- ---- steps

module _ (shown : ℕ → Bool) (element : ℕ → ℕ → List Word) where
  -- elements that are left out
  phrase_skips : (s passed : ℕ) (l : List ℕ) → phrase_from shown element l s passed ≡ phrase_from shown element (drop s l) 0 passed
  unfolding phrase_from added skip_after passed_after
  phrase_skips zero passed l = refl
  phrase_skips (suc s) passed [] = refl
  phrase_skips (suc s) passed (e ∷ l) = let one : suc s - 1 ≡ s = omega arith in rw (ne_eqb (suc s) 0 (λ z. omega arith), one) (phrase_skips s passed l)

module _ (sources r pattern : List ℕ) (o o' : Output) (p q : Progress) (h : p.next < length pattern) where
  abbrev here : ℕ
  here = get_or pattern p.next 0

  pub step_word : here < NAME → q.next ≡ p.next + 1 → q.passed ≡ p.passed → Printed o (lexeme here) o' → Stepped sources r pattern o p o' q
  unfolding left_of phrase_from added skip_after passed_after
  step_word l n k g =
      let m = ne_eqb here MAYBE (λ e. omega arith) in
      record {
        added = lexeme here;
        prints = g;
        left = rw (drop-cons pattern p.next 0 h, m, lt-ltb here NAME l, n, add-one p.next, k);
        further = omega arith;
      }

  pub step_element :
      {source : ℕ} → NAME ≤ here → (here ≡ MAYBE → ⊥) → source ≡ get_or sources p.passed 0
      → q.next ≡ p.next + 1 → q.passed ≡ one_more p.passed → Printed o (element_of r here source) o'
      → Stepped sources r pattern o p o' q
  unfolding left_of phrase_from added skip_after passed_after
  step_element {source = source} l a f n k g =
      let m = ne_eqb here MAYBE a in
      record {
        added = element_of r here source;
        prints = g;
        left = rw (drop-cons pattern p.next 0 h, m, le-ltb here NAME l, n, add-one p.next, k, f);
        further = omega arith;
      }

-- a group is printed, or left out
module _ (r pattern : List ℕ) (p q : Progress) (h : p.next < length pattern) (e : get_or pattern p.next 0 ≡ MAYBE) where
  abbrev fate : Bool
  fate = shown_in r (get_or pattern (p.next + 1) 0)

  after_maybe : (sources : List ℕ) → left_of sources r pattern p
      ≡ phrase_from (shown_in r) (element_in sources r) (drop (suc p.next) pattern) (cond fate 0 GROUP) (cond fate p.passed (one_more p.passed))
  unfolding left_of phrase_from added skip_after passed_after
  after_maybe sources =
      let m : get_or (drop (suc p.next) pattern) 0 0 ≡ get_or pattern (p.next + 1) 0 =
      rw (get_or-drop (suc p.next) pattern 0 0) (ap (λ (j : ℕ). get_or pattern j 0) (omega arith)) in
      rw (drop-cons pattern p.next 0 h, e, m)

  entered : (p.next < q.next) → ((sources : List ℕ) → left_of sources r pattern p ≡ left_of sources r pattern q) → Entered r pattern p q
  entered f l = record { steps = λ sources o. record { added = []; prints = printed_none; left = l sources; further = f } }

  module _ {shown : Bool} {code set w : ℕ} (c : code ≡ get_or r column.CODE 0) (f : set ≡ get_or r column.FLAGS 0) (g : w ≡ get_or pattern (p.next + 1) 0)
      (s : shown ≡ shown_by (has_flags code set) (has_default set) w) where
    fate_is : fate ≡ shown
    fate_is = sym (s ∙ rw (c, f, g))

    pub group_in : shown ≡ true → q.next ≡ p.next + 1 → q.passed ≡ p.passed → Entered r pattern p q
    unfolding left_of
    group_in t n k = let b = fate_is ∙ t in entered (omega arith) (λ sources. after_maybe sources ∙ rw (b, n, k, add-one p.next))

    pub group_out : shown ≡ false → q.next ≡ p.next + 1 + GROUP → q.passed ≡ one_more p.passed → Entered r pattern p q
    unfolding left_of
    group_out t n k =
        let b = fate_is ∙ t in
        let e : suc p.next + GROUP ≡ q.next = omega arith in
        let d : drop GROUP (drop (suc p.next) pattern) ≡ drop q.next pattern = drop-drop GROUP (suc p.next) pattern ∙ rw e in
        entered (omega arith)
        (λ sources.
        after_maybe sources
        ∙ rw (b, k, ← d) (phrase_skips (shown_in r) (element_in sources r) GROUP (one_more p.passed) (drop (suc p.next) pattern)))

-- ---- the loop over a pattern

module _ (sources r pattern : List ℕ) where
  pub phrase_next : {o o' : Output} {p q : Progress} (s : Stepped sources r pattern o p o' q)
      → text_of (left_of sources r pattern p) ≡ text_of s.added ++ text_of (left_of sources r pattern q)
  phrase_next {q = q} s = rw s.left (text_append s.added (left_of sources r pattern q))

  pub phrase_end : (p : Progress) → length pattern ≤ p.next → text_of (left_of sources r pattern p) ≡ []
  unfolding left_of phrase_from text_of
  phrase_end p h = rw (drop_of_length-le pattern h)
