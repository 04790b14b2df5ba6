-- A numeric: what its phrase keeps, its size and display, and the first of its numbers that does not fit (document 02, W-204).
-- Assumes nothing.
use Prim.Native.Nat.{ℕ, ◌%◌, ◌<◌}
use mathlib.Core.Path.{◌≡◌, refl, sym, ap, ◌∙◌}
use mathlib.Core.Bool.{Bool, true, false, not, cond}
use mathlib.Core.List.{List, [], ◌∷◌, ◌++◌, append-nil}
use mathlib.Core.Option.{some}
use native.Mathlib.Omega.{arith}
use lib.Dec.{eqb, ltb}
use borrow.Author.Tests.{eqb-true, ltb-true}
use Rattle.lexemes.specs.Classes as class
use Rattle.lexemes.specs.Classes.{semicolon, comma}
use Rattle.rows.specs.Sizes.{NO_SIZE, UINT_DEC, size_and_display, size_of}
use Rattle.rows.proofs.SizeLaws.{size_of_lem}
use Rattle.sizes.specs.Sizes.{width}
use Rattle.ll1.specs.Trees.{token, Trees, nil, leaf, node, Alternative, alternative_of, Fits, fits_nil, fits_leaf, fits_node}
use Rattle.grammar.specs.Grammar.{rules}
use Rattle.grammar.specs.Rules.{<item>, <step>?, <number_default>?, <numeric_flags>?, <numeric_value>}
use Rattle.grammar.specs.Source.{number_at}
use Rattle.grammar.specs.Parts.{mark, when, child, written, place_at}
use Rattle.grammar.specs.Positions.{item_numeric, numeric_head, numeric_flags, numeric_minimum, numeric_maximum, numeric_step, numeric_default}
use Rattle.grammar.specs.Positions.{step_value, default_value, head_prompt, head_help}
use Rattle.grammar.specs.Flags.{size_words, display_words, classes, flags, size_in, display_in}
use Rattle.grammar.specs.Ranges.{bytes, range_of, keeps, out_of, sized_places, out_of_range_here, seconds_here}
use Rattle.grammar.proofs.FlagTotals.{flags_le, first_tested}
use Rattle.answers.specs.Rows.{name_mark, written_mark}
use Rattle.elements.specs.declared.noted.Noted.{Noted}
use Rattle.elements.specs.Entries.{entries}
use Rattle.elements.specs.Marks.{faults_here, first_mark, with_outside, noting}
use Rattle.elements.specs.Symbols.{symbols_of, phrase_symbols, NUMERIC}
use Rattle.elements.proofs.MarkLaws.{noting_outsides}
use Rattle.fields.specs.Sizes.{size_entry, oversized, first_oversized}
use Rattle.fields.proofs.SizeLaws.{entry_there}
use Rattle.walk.specs.Meanings.{kept_of}
use Rattle.walk.proofs.Kept.{either_way, head_keeps, numeric_entry, numeric_flags_keeps, numeric_value_keeps, step_keeps, default_keeps}

-- ---- size and display

module _ (f : Trees) where
  display_small : display_in f < 4
  display_small = ltb-true (display_in f) 4 (first_tested (λ n. ltb n 4) display_words UINT_DEC (classes f) refl refl)

  size_some : 0 < size_in f
  size_some = ltb-true 0 (size_in f) (first_tested (ltb 0) size_words NO_SIZE (classes f) refl refl)

  -- it is one of the four
  size_known : width (size_in f) ≡ size_in f
  unfolding width
  size_known = eqb-true (width (size_in f)) (size_in f) (first_tested (λ n. eqb (width n) n) size_words NO_SIZE (classes f) refl refl)

-- the entry of [`flags =` FL `,`] holds flags, size and display
pub record Holds (entry : ℕ) (c : Trees) : Type 0 where
  pub flags_are : entry % 256 ≡ flags c
  pub column_is : size_entry entry ≡ size_and_display (size_in c) (display_in c)

part_holds :
    (i : ℕ) (a : Alternative) (c : Trees)
    → alternative_of rules <numeric_flags>? i ≡ some a → Fits rules a.symbols c → Holds (when (eqb i 1) (numeric_entry c)) c
unfolding rules size_entry
part_holds = either_way (λ i c. Holds (when (eqb i 1) (numeric_entry c)) c) refl absent (λ c h. there c)
  where
    absent : (c : Trees) → Fits rules [] c → Holds 0 c
    absent c fits_nil = record { flags_are = refl; column_is = refl }

    there : (c : Trees) → Holds (numeric_entry c) c
    there c =
        let low = flags_le c in
        let some = size_some c in
        record {
          flags_are = omega arith;
          column_is = sym (entry_there (numeric_entry c) (λ e. absurd (omega arith))) ∙ omega arith;
        }

-- ---- what the phrase keeps

-- the entries in the words of the row's definition; that of [`flags =` FL `,`] has a name
pub record NumericKept (number_at_lem : ℕ → ℕ) (c : Trees) : Type 0 where
  pub entry : ℕ
  pub holds : Holds entry (child numeric_flags c)
  pub entries_are :
      entries c
      ≡ name_mark number_at_lem (child numeric_head c)
      ∷ written_mark number_at_lem (child numeric_head c)
      ∷ mark (place_at 0 (child 2 (child head_prompt (child numeric_head c))))
      ∷ mark (place_at 0 (child 2 (child head_help (child numeric_head c))))
      ∷ entry
      ∷ mark (place_at 0 (child numeric_minimum c))
      ∷ mark (place_at 0 (child numeric_maximum c))
      ∷ when (written numeric_step c) (mark (place_at 0 (child step_value (child numeric_step c))))
      ∷ when (written numeric_default c) (mark (place_at 0 (child default_value (child numeric_default c))))
      ∷ []

pub numeric_keeps : (number_at_lem : ℕ → ℕ) {c : Trees} → Fits rules (symbols_of NUMERIC) c → NumericKept number_at_lem c
unfolding symbols_of phrase_symbols entries
numeric_keeps na
    (fits_leaf (fits_node {i = i₁} {c = c₁} e₁ h₁ (fits_leaf {p = p₂} (fits_node {i = i₃} {c = c₃} e₃ h₃
    (fits_leaf {p = p₄} (fits_leaf {p = p₅} (fits_node {i = i₆} {c = c₆} e₆ h₆
    (fits_leaf {p = p₇} (fits_leaf {p = p₈} (fits_leaf {p = p₉} (fits_node {i = j₀} {c = d₀} f₀ k₀
    (fits_leaf {p = q₁} (fits_node {i = j₂} {c = d₂} f₂ k₂ (fits_node {i = j₃} {c = d₃} f₃ k₃ (fits_leaf {p = q₄} (fits_leaf {p = p} fits_nil)))))))))))))))) =
    let last = leaf (token class.«endnumeric» q₄) (leaf (token semicolon p) nil) in
    let default = node <number_default>? j₃ d₃ last in
    let step = leaf (token comma q₁) (node <step>? j₂ d₂ default) in
    let maximum = leaf (token comma p₇) (leaf (token class.«maximum» p₈) (leaf (token class.«=» p₉) (node <numeric_value> j₀ d₀ step))) in
    let minimum = leaf (token class.«minimum» p₄) (leaf (token class.«=» p₅) (node <numeric_value> i₆ c₆ maximum)) in
    record {
      entry = when (eqb i₃ 1) (numeric_entry c₃);
      holds = part_holds i₃ _ c₃ e₃ h₃;
      entries_are =
          rw (
            head_keeps na i₁ _ c₁ e₁ h₁ (leaf (token comma p₂) (node <numeric_flags>? i₃ c₃ minimum)),
            numeric_flags_keeps i₃ _ c₃ e₃ h₃ minimum,
            numeric_value_keeps i₆ _ c₆ e₆ h₆ maximum,
            numeric_value_keeps j₀ _ d₀ f₀ k₀ step,
            step_keeps j₂ _ d₂ f₂ k₂ default,
            default_keeps j₃ _ d₃ f₃ k₃ last,
          );
    }

-- ---- the first number that does not fit

module _ (s : List ℕ) (size : ℕ) where
  -- the places at which the numbers do not fit
  abbrev oversized_at : List ℕ → List ℕ
  oversized_at ps = out_of s (bytes (width size)) ps

  -- a place that is there or not, before others
  first_oversized_lem :
      (b : Bool) (p : ℕ) (ps : List ℕ)
      → cond (oversized s size (when b (mark p))) (when b (mark p)) (first_mark (oversized_at ps)) ≡ first_mark (oversized_at (cond b (p ∷ []) [] ++ ps))
  unfolding oversized
  first_oversized_lem false p ps = refl
  first_oversized_lem true p ps = by (keeps s (bytes (width size)) p)
    where
      by : (kept : Bool) → cond (not kept) (mark p) (first_mark (oversized_at ps)) ≡ first_mark (cond kept [] (p ∷ []) ++ oversized_at ps)
      by true = refl
      by false = refl

  -- minimum, maximum, and step and default where they are there
  oversized_of_four :
      (a b : Bool) (m n p q : ℕ)
      → (let step = when a (mark p) in
      let default = when b (mark q) in
      cond (oversized s size (mark m)) (mark m)
      (cond (oversized s size (mark n)) (mark n) (cond (oversized s size step) step (cond (oversized s size default) default 0)))
      ≡ first_mark (oversized_at (m ∷ n ∷ (cond a (p ∷ []) [] ++ cond b (q ∷ []) []))))
  oversized_of_four a b m n p q =
      let defaults = cond b (q ∷ []) [] in
      let steps = cond a (p ∷ []) [] ++ defaults in
      let of_default = first_oversized_lem b q [] ∙ ap (λ l. first_mark (oversized_at l)) (append-nil defaults) in
      let of_step = ap (cond (oversized s size (when a (mark p))) (when a (mark p))) of_default ∙ first_oversized_lem a p defaults in
      let of_maximum = ap (cond (oversized s size (mark n)) (mark n)) of_step ∙ first_oversized_lem true n steps in
      ap (cond (oversized s size (mark m)) (mark m)) of_maximum ∙ first_oversized_lem true m (n ∷ steps)

-- the first of the numbers of a numeric that does not fit its size, by what its phrase keeps
module _ (s : List ℕ) {c : Trees} (h : Fits rules (symbols_of NUMERIC) c) where
  abbrev size_of_numeric : ℕ
  size_of_numeric = size_in (child numeric_flags c)

  oversized_first : first_oversized s (kept_of c) ≡ first_mark (out_of s (bytes size_of_numeric) (sized_places c))
  unfolding first_oversized kept_of
  oversized_first =
      let k = numeric_keeps (number_at s) h in
      let f = child numeric_flags c in
      let size : size_of (size_entry k.entry) ≡ size_in f = ap size_of k.holds.column_is ∙ size_of_lem (size_in f) (display_in f) (display_small f) in
      rw (k.entries_are, size)
      (oversized_of_four s (size_in f) (written numeric_step c) (written numeric_default c)
      (place_at 0 (child numeric_minimum c)) (place_at 0 (child numeric_maximum c))
      (place_at 0 (child step_value (child numeric_step c))) (place_at 0 (child default_value (child numeric_default c)))
      ∙ ap (λ w. first_mark (out_of s (bytes w) (sized_places c))) (size_known f))

  -- noting it notes the numeric's own faults
  pub numeric_noted : (n : Noted) → with_outside n (first_oversized s (kept_of c)) ≡ noting n (faults_here s <item> item_numeric c)
  unfolding faults_here seconds_here out_of_range_here range_of keeps
  numeric_noted n = ap (with_outside n) oversized_first ∙ sym (noting_outsides n (out_of s (bytes size_of_numeric) (sized_places c)))
