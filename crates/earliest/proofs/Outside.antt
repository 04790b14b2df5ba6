-- Numbers outside their place (document 01, refusal 5; document 02, W-204) are listed in source order.
-- Assumes nothing.
use mathlib.Core.Path.{◌≡◌, refl}
use mathlib.Core.List.{List, [], ◌∷◌, ◌++◌, append-nil}
use mathlib.Core.Option.{some}
use mathlib.Core.Bool.{Bool, true, false, not, cond, ◌&&◌, ◌||◌}
use Prim.Native.Nat.{ℕ, zero, suc}
use lib.Dec.{eqb}
use borrow.Author.Tests.{eqb-true, not-true}
use Rattle.lexemes.specs.Classes.{comma, semicolon, «=», «endnumeric», «maximum», «minimum», «numeric»}
use Rattle.lexemes.proofs.Lists.{either}
use Rattle.ll1.specs.Trees.{token, Trees, nil, leaf, node, Symbol, terminal, nonterminal, Alternative, alternative_of}
use Rattle.ll1.specs.Trees.{Fits, fits_nil, fits_leaf, fits_node}
use Rattle.ll1.specs.ParseTable.{member}
use Rattle.ll1.proofs.Basics.{clash, both, implied, same, all_member}
use Rattle.grammar.specs.Grammar.{rules}
use Rattle.grammar.specs.Notation.{t, r, plain}
use Rattle.grammar.specs.Rules.{<item>, <head>, <step>?, <number_default>?}
use Rattle.grammar.specs.Rules.{<numeric_flags>?, <numeric_fl>, <numeric_flag>*, <numeric_flag>, <numeric_value>}
use Rattle.grammar.specs.Parts.{child, place_at}
use Rattle.grammar.specs.Positions.{item_numeric, numeric_head, numeric_flags, step_value, default_value}
use Rattle.grammar.specs.Flags.{size_in}
use Rattle.grammar.specs.Ranges.{Range, free, between, bytes, digits, ranges, range_of, keeps}
use Rattle.grammar.specs.Ranges.{gathered, is_numeric, sized_places, out_of, out_of_range_here, out_of_range}
use Rattle.grammar.proofs.Alternatives.{everywhere, at_alternative}
use Rattle.earliest.specs.Order.{Sublist, sublist_none, sublist_skip, sublist_take}
use Rattle.earliest.proofs.Sublists.{sublist_nil, sublist_append, sublist_first, sublist_second, sublist_trans, sublist_if}
use Rattle.earliest.proofs.Gathered.{places, closed, InOrder, AtNodes, in_order_lem, gathered_none}

-- ---- numbers

abbrev is_free : Range → Bool
is_free free = true
is_free (between low high) = false
is_free (bytes w) = false
is_free (digits n) = false

free_is : (range : Range) → is_free range ≡ true → range ≡ free
free_is free h = refl
free_is (between low high) h = clash cc
free_is (bytes w) h = clash cc
free_is (digits n) h = clash cc

-- a rule of numbers: one that has a range, or a numeric's N
abbrev is_number : ℕ → Bool
is_number A = not (is_free (range_of A)) || eqb A <numeric_value>

-- its alternatives are a token each
abbrev one_token : List Symbol → Bool
one_token [] = false
one_token (nonterminal A ∷ σ) = false
one_token (terminal k ∷ []) = true
one_token (terminal k ∷ x ∷ σ) = false

-- a leaf alone
data Single : Trees → Type 0 where
  single : (k p : ℕ) → Single (leaf (token k p) nil)

one_single : {σ : List Symbol} {c : Trees} → Fits rules σ c → one_token σ ≡ true → Single c
one_single fits_nil h = clash cc
one_single (fits_leaf {k = k} {p = p} fits_nil) h = single k p
one_single (fits_leaf (fits_leaf q)) h = clash cc
one_single (fits_leaf (fits_node e q₁ q₂)) h = clash cc
one_single (fits_node e q₁ q₂) h = clash cc

numbers_one_token : everywhere (λ A i a. not (is_number A) || one_token a.symbols) ≡ true
unfolding rules range_of ranges
numbers_one_token = refl

number_single :
    (A i : ℕ) (a : Alternative) (c : Trees)
    → is_number A ≡ true → alternative_of rules A i ≡ some a → Fits rules a.symbols c → Single c
number_single A i a c h e q = one_single q (implied (is_number A) (one_token a.symbols) (at_alternative _ numbers_one_token e) h)

place_some : {c : Trees} → Single c → Sublist (place_at 0 c ∷ []) (places c)
place_some (single k p) = sublist_take sublist_none

-- the n-th symbol is a rule of numbers
abbrev has_number : ℕ → List Symbol → Bool
has_number n [] = false
has_number zero (terminal k ∷ σ) = false
has_number (suc n) (terminal k ∷ σ) = has_number n σ
has_number zero (nonterminal A ∷ σ) = is_number A
has_number (suc n) (nonterminal A ∷ σ) = has_number n σ

-- then the n-th of the trees has its place among theirs
number_at_lem : (n : ℕ) {σ : List Symbol} {f : Trees} → Fits rules σ f → has_number n σ ≡ true → Sublist (place_at 0 (child n f) ∷ []) (places f)
number_at_lem n fits_nil h = clash cc
number_at_lem zero (fits_leaf q) h = clash cc
number_at_lem (suc n) (fits_leaf q) h = sublist_skip (number_at_lem n q h)
number_at_lem zero (fits_node {A = A} {i = i} {a = a} {c = c} {f = f} e q₁ q₂) h = sublist_first (places f) (place_some (number_single A i a c h e q₁))
number_at_lem (suc n) (fits_node {c = c} e q₁ q₂) h = sublist_second (places c) (number_at_lem n q₂ h)

-- a part in square brackets, the rule A, has a number where it is written
abbrev optional_number : ℕ → ℕ → ℕ → ℕ → Alternative → Bool
optional_number A number B i a = not (eqb B A && eqb i 1) || has_number number a.symbols

written_some :
    (A number i : ℕ) (a : Alternative) (c : Trees)
    → everywhere (optional_number A number) ≡ true → alternative_of rules A i ≡ some a → Fits rules a.symbols c
    → Sublist (cond (eqb i 1) (place_at 0 (child number c) ∷ []) []) (places c)
written_some A number i a c h e q =
    sublist_if (eqb i 1)
    (λ t. number_at_lem number q (implied (eqb A A && eqb i 1) _ (at_alternative _ h e) (rw (same A, t))))
    (λ t. sublist_nil (places c))

-- ---- a numeric

-- `numeric` HEAD `,` [`flags =` FL `,`] `minimum =` N `, maximum =` N `,` [`step =` N `,`] [`default =` N `,`] `endnumeric ;`
abbrev after_head : List Symbol
after_head =
    t comma ∷ r <numeric_flags>? ∷ t «minimum» ∷ t «=» ∷ r <numeric_value> ∷ t comma ∷ t «maximum» ∷ t «=» ∷ r <numeric_value> ∷ t comma
    ∷ r <step>? ∷ r <number_default>? ∷ t «endnumeric» ∷ t semicolon ∷ []

abbrev numeric_line : List Symbol
numeric_line = t «numeric» ∷ r <head> ∷ after_head

numeric_is : (a : Alternative) → alternative_of rules <item> item_numeric ≡ some a → a ≡ plain numeric_line
unfolding rules
numeric_is a e = cc

-- its N; [`step =` N `,`] and [`default =` N `,`]
value_some :
    (i : ℕ) (a : Alternative) (c : Trees)
    → alternative_of rules <numeric_value> i ≡ some a → Fits rules a.symbols c → Sublist (place_at 0 c ∷ []) (places c)
unfolding range_of ranges
value_some i a c e q = place_some (number_single <numeric_value> i a c refl e q)

step_written : everywhere (optional_number <step>? step_value) ≡ true
unfolding rules range_of ranges
step_written = refl

default_written : everywhere (optional_number <number_default>? default_value) ≡ true
unfolding rules range_of ranges
default_written = refl

-- "Minimum, maximum, step and default" (document 02, W-204) stand after its HEAD, in this order
sized_some : (k p i : ℕ) (c f : Trees) → Fits rules after_head f → Sublist (sized_places (leaf (token k p) (node <head> i c f))) (places f)
sized_some k p i c f
    (fits_leaf (fits_node {c = flags} e₀ q₀ (fits_leaf (fits_leaf (fits_node {i = i₁} {c = minimum} e₁ q₁
    (fits_leaf (fits_leaf (fits_leaf (fits_node {i = i₂} {c = maximum} e₂ q₂
    (fits_leaf (fits_node {i = i₃} {c = step} e₃ q₃ (fits_node {i = i₄} {c = default} e₄ q₄ rest)))))))))))) =
    sublist_skip (sublist_second (places flags) (sublist_skip (sublist_skip
    (sublist_append (value_some i₁ _ minimum e₁ q₁) (sublist_skip (sublist_skip (sublist_skip
    (sublist_append (value_some i₂ _ maximum e₂ q₂) (sublist_skip
    (sublist_append (written_some <step>? step_value i₃ _ step step_written e₃ q₃)
    (sublist_first _ (written_some <number_default>? default_value i₄ _ default default_written e₄ q₄))))))))))))

-- the rules after its HEAD, which have no range
abbrev unranged : List ℕ
unranged = <numeric_flags>? ∷ <numeric_fl> ∷ <numeric_flag>* ∷ <numeric_flag> ∷ <numeric_value> ∷ <step>? ∷ <number_default>? ∷ []

unranged_closed : closed unranged ≡ true
unfolding rules
unranged_closed = refl

module _ (s : List ℕ) where
  -- those of some places that are out of a range
  out_some : (range : Range) (ps : List ℕ) → Sublist (out_of s range ps) ps
  out_some range [] = sublist_none
  out_some range (p ∷ ps) =
      let here : Sublist (cond (keeps s range p) [] (p ∷ [])) (p ∷ []) =
      sublist_if (keeps s range p) (λ e. sublist_nil (p ∷ [])) (λ e. sublist_take sublist_none) in
      sublist_append here (out_some range ps)

  out_free : (p : ℕ) → out_of s free (p ∷ []) ≡ []
  unfolding keeps
  out_free p = refl

  -- ---- at a node

  -- a rule without a range, but for a numeric
  here_none : (A i : ℕ) (c : Trees) → range_of A ≡ free → is_numeric A i ≡ false → out_of_range_here s A i c ≡ []
  unfolding out_of_range_here
  here_none A i c e n = rw (e, n, out_free)

  silent : (A i : ℕ) (c : Trees) → member A unranged ≡ true → out_of_range_here s A i c ≡ []
  unfolding range_of ranges
  silent A i c m =
      let h = both (is_free (range_of A)) _ (all_member (λ B. is_free (range_of B) && not (eqb B <item>)) unranged A refl m) in
      here_none A i c (free_is (range_of A) h.0) (rw (not-true (eqb A <item>) h.1))

  -- a numeric: the faults under it are those of its HEAD, and its own come after
  after_head_lem : {f : Trees} → Fits rules after_head f → gathered (out_of_range_here s) f ≡ []
  after_head_lem q = gathered_none (out_of_range_here s) unranged unranged_closed silent q refl

  numeric_own : (c : Trees) → out_of_range_here s <item> item_numeric c ≡ out_of s (bytes (size_in (child numeric_flags c))) (sized_places c)
  unfolding out_of_range_here range_of ranges keeps
  numeric_own c = refl

  head_own : (i : ℕ) (c : Trees) → out_of_range_here s <head> i c ≡ []
  unfolding range_of ranges
  head_own i c = here_none <head> i c refl refl

  at_numeric :
      (c : Trees) → Fits rules numeric_line c → InOrder (out_of_range_here s) c
      → Sublist (gathered (out_of_range_here s) c ++ out_of_range_here s <item> item_numeric c) (places c)
  unfolding gathered
  at_numeric c (fits_leaf {k = k} {p = p} (fits_node {i = i} {c = head} {f = f} e q₁ q₂)) inner =
      rw (after_head_lem q₂, head_own i head, numeric_own, append-nil)
      (sublist_skip (sublist_append (inner.under numeric_head) (sublist_trans (out_some _ _) (sized_some k p i head f q₂))))

  -- a number
  at_number :
      (A i : ℕ) (c : Trees) → is_numeric A i ≡ false → Single c
      → Sublist (gathered (out_of_range_here s) c ++ out_of_range_here s A i c) (places c)
  unfolding gathered out_of_range_here
  at_number A i c n (single k p) = rw (n, append-nil (out_of s (range_of A) (p ∷ []))) (out_some (range_of A) (p ∷ []))

  -- any
  at_node : AtNodes (out_of_range_here s)
  at_node A i a c e q inner =
      either (is_numeric A i)
      (λ n.
      let h = both (eqb A <item>) (eqb i item_numeric) n in
      let is_item_lem = eqb-true A <item> h.0 in
      let is_numeric_lem = eqb-true i item_numeric h.1 in
      rw (is_item_lem, is_numeric_lem) (at_numeric c (rw (numeric_is a (rw (is_item_lem, is_numeric_lem) at e)) at q) inner))
      (λ n.
      either (is_free (range_of A))
      (λ h. rw (here_none A i c (free_is (range_of A) h) n, append-nil (gathered (out_of_range_here s) c)) inner.all)
      (λ h. at_number A i c n (number_single A i a c (rw h) e q)))

  pub outside_in_order : {σ : List Symbol} {f : Trees} → Fits rules σ f → Sublist (out_of_range s f) (places f)
  unfolding out_of_range
  outside_in_order q = (in_order_lem (out_of_range_here s) at_node q).all
