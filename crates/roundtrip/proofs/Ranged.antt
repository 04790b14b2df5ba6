-- Shapes whose words can be read back, whose numbers keep their ranges, whose flags have no second size or display word and whose numerics write their
-- step; and the trees over them.
-- Assumes nothing.
use mathlib.Core.Path.{◌≡◌, refl, ap, sym, subst}
use mathlib.Core.List.{List, [], ◌∷◌, ◌++◌}
use mathlib.Core.Bool.{Bool, true, false, cond}
use Prim.Native.Nat.{ℕ, zero, suc, ◌≤◌, ◌<◌, ◌^◌}
use native.Mathlib.Omega.{arith}
use lib.Dec.{eqb, leb}
use borrow.Author.Tests.{le-leb, lt-ltb}
use Rattle.lexemes.specs.Classes as class
use Rattle.ll1.specs.Trees.{Trees, leaves}
use Rattle.ll1.proofs.Basics.{append_empty}
use Rattle.sizes.specs.Sizes.{modulus, fits}
use Rattle.rows.specs.Sizes.{NO_SIZE}
use Rattle.grammar.specs.Rules.{<atom>, <large>, <item>, <numeric_fl>}
use Rattle.answers.specs.Expression.{Operator, operator_class, or, and, bit_or, bit_and, equal, not_equal, less, less_equal, greater, greater_equal, shift_left, shift_right, add, subtract, multiply, divide, modulo, Constant, constant_class, true', false', zero', one', ones', undefined'}
use Rattle.answers.specs.MissingStep.{every_numeric, writes_steps}
use Rattle.grammar.specs.Parts.{child, written, place_at}
use Rattle.grammar.specs.Positions.{numeric_flags, numeric_minimum, numeric_maximum, numeric_step, numeric_default, step_value, default_value}
use Rattle.grammar.specs.Flags.{size_words, display_words, classes, first_of, size_in, seconds_in}
use Rattle.grammar.specs.Ranges.{Range, free, between, bytes, digits, ranges, range_of, keeps, gathered, is_numeric, written_place, sized_places, out_of}
use Rattle.grammar.specs.Ranges.{out_of_range_here, out_of_range, seconds_here, second_words}
use Rattle.grammar.proofs.FlagTotals.{count}
use Rattle.grammar.proofs.SizeWords.{no_second}
use Rattle.formulas.specs.Shapes.{sign, decimal, hex, rule_name, Valid, AllValid, none_valid, more_valid, Shape, s_nil, s_leaf, s_node, flat, lexed, part, taken, read_sign, read_decimal, read_rule, read_hex, Over, over_nil, over_leaf, over_node}
use Rattle.formulas.proofs.Shapes.{valid_append, over_part, over_taken, over_classes}
use Rattle.formulas.specs.Formula.{Formula, f_number, f_constant, f_question, f_rule, f_not, f_binary, tight}
use Rattle.formulas.specs.Levels.{alternative, constant_alternative, lv, tl}
use Rattle.formulas.proofs.Levels.{nine, tight_lt}
use Rattle.formulas.specs.Tree.{raised, atomic, tail_of, joining, paren, binary_tree, numeral_shape, question_under, rule_under, tree, chain}

-- ---- ranges of shapes

abbrev pub Keeps : Range → Shape → Type 0
Keeps free x = Unit {0}
Keeps (between low high) s_nil = ⊥
Keeps (between low high) (s_leaf (sign k) x) = ⊥
Keeps (between low high) (s_leaf (decimal v) x) = (low ≤ v) × (v ≤ high)
Keeps (between low high) (s_leaf (rule_name n) x) = ⊥
Keeps (between low high) (s_leaf (hex w v) x) = ⊥
Keeps (between low high) (s_node A i c x) = ⊥
Keeps (bytes n) s_nil = ⊥
Keeps (bytes n) (s_leaf (sign k) x) = ⊥
Keeps (bytes n) (s_leaf (decimal v) x) = v < modulus n
Keeps (bytes n) (s_leaf (rule_name m) x) = ⊥
Keeps (bytes n) (s_leaf (hex w v) x) = ⊥
Keeps (bytes n) (s_node A i c x) = ⊥
Keeps (digits n) s_nil = ⊥
Keeps (digits n) (s_leaf (sign k) x) = ⊥
Keeps (digits n) (s_leaf (decimal v) x) = ⊥
Keeps (digits n) (s_leaf (rule_name m) x) = ⊥
Keeps (digits n) (s_leaf (hex w v) x) = w ≤ n
Keeps (digits n) (s_node A i c x) = ⊥

-- the size that a numeric's flags name
abbrev pub size_named : Shape → ℕ
size_named c = size_in (flat (part numeric_flags c))

-- its numbers fit it, the default where it is written; the step always is
pub record NumbersFit (c : Shape) : Type 0 where
  pub minimum : Keeps (bytes (size_named c)) (part numeric_minimum c)
  pub maximum : Keeps (bytes (size_named c)) (part numeric_maximum c)
  pub step_written : eqb (taken numeric_step c) 1 ≡ true
  pub step : Keeps (bytes (size_named c)) (part step_value (part numeric_step c))
  pub default : eqb (taken numeric_default c) 1 ≡ true → Keeps (bytes (size_named c)) (part default_value (part numeric_default c))

-- one size word and one display word at most
abbrev pub OneEach : Shape → Type 0
OneEach c = (count size_words (classes (flat c)) ≤ 1) × (count display_words (classes (flat c)) ≤ 1)

-- the number of a node keeps the range of its rule; a numeric's numbers fit its size, and its FL has no second word
abbrev pub KeepsAs : (numeric list : Bool) → Range → Shape → Type 0
KeepsAs false false range c = Keeps range c
KeepsAs false true range c = Keeps range c × OneEach c
KeepsAs true false range c = Keeps range c × NumbersFit c
KeepsAs true true range c = ⊥

abbrev pub NodeKeeps : ℕ → ℕ → Shape → Type 0
NodeKeeps A i c = KeepsAs (is_numeric A i) (eqb A <numeric_fl>) (range_of A) c

abbrev pub Ranged : Shape → Type 0
Ranged s_nil = Unit {0}
Ranged (s_leaf l x) = Valid l × Ranged x
Ranged (s_node A i c x) = NodeKeeps A i c × Ranged c × Ranged x

-- of a node, without what stands beside it
abbrev pub NodeRanged : ℕ → ℕ → Shape → Type 0
NodeRanged A i c = NodeKeeps A i c × Ranged c

-- a rule that has no range and is neither an item's nor a numeric's FL
pub record Plain (A : ℕ) : Type 0 where
  pub range : range_of A ≡ free
  pub no_item : eqb A <item> ≡ false
  pub no_list : eqb A <numeric_fl> ≡ false

pub plain_node : (A i : ℕ) (c x : Shape) → Plain A → Ranged c → Ranged x → Ranged (s_node A i c x)
plain_node A i c x e h k = (rw (e.no_item, e.no_list, e.range) tt, h, k)

pub ranged_valid : (x : Shape) → Ranged x → AllValid (lexed x)
ranged_valid s_nil h = none_valid
ranged_valid (s_leaf l x) h = more_valid h.0 (ranged_valid x h.1)
ranged_valid (s_node A i c x) h = valid_append (ranged_valid c h.1) (ranged_valid x h.2)

-- ---- trees over them

module _ (t : List ℕ) where
  over_keeps : (r : Range) {T : Trees} {x : Shape} → Over t T x → Keeps r x → keeps t r (place_at 0 T) ≡ true
  unfolding keeps fits
  over_keeps free o h = refl
  over_keeps (between low high) over_nil h = absurd h
  over_keeps (between low high) (over_leaf read_sign o) h = absurd h
  over_keeps (between low high) (over_leaf (read_decimal {v = v} e) o) h = rw (e, le-leb low v h.0, le-leb v high h.1)
  over_keeps (between low high) (over_leaf (read_rule e w) o) h = absurd h
  over_keeps (between low high) (over_leaf (read_hex e d) o) h = absurd h
  over_keeps (between low high) (over_node o₁ o₂) h = absurd h
  over_keeps (bytes n) over_nil h = absurd h
  over_keeps (bytes n) (over_leaf read_sign o) h = absurd h
  over_keeps (bytes n) (over_leaf (read_decimal {v = v} e) o) h = rw (e, lt-ltb v (modulus n) h)
  over_keeps (bytes n) (over_leaf (read_rule e w) o) h = absurd h
  over_keeps (bytes n) (over_leaf (read_hex e d) o) h = absurd h
  over_keeps (bytes n) (over_node o₁ o₂) h = absurd h
  over_keeps (digits n) over_nil h = absurd h
  over_keeps (digits n) (over_leaf read_sign o) h = absurd h
  over_keeps (digits n) (over_leaf (read_decimal e) o) h = absurd h
  over_keeps (digits n) (over_leaf (read_rule e w) o) h = absurd h
  over_keeps (digits n) (over_leaf (read_hex {w = w} e d) o) h = rw (d, le-leb w n h)
  over_keeps (digits n) (over_node o₁ o₂) h = absurd h

  -- ---- no number of the tree is out of its range

  none_out : (range : Range) (ps qs : List ℕ) → out_of t range ps ≡ [] → out_of t range qs ≡ [] → out_of t range (ps ++ qs) ≡ []
  none_out range [] qs h g = g
  none_out range (p ∷ ps) qs h g =
      let f = append_empty (cond (keeps t range p) [] (p ∷ [])) (out_of t range ps) h in
      rw f.0 (none_out range ps qs f.1 g)

  written_out :
      (range : Range) (part number : ℕ) (T : Trees)
      → (written part T ≡ true → keeps t range (place_at 0 (child number (child part T))) ≡ true) → out_of t range (written_place part number T) ≡ []
  written_out range part number T h = by (written part T) h
    where
      by :
          (b : Bool) → (b ≡ true → keeps t range (place_at 0 (child number (child part T))) ≡ true)
          → out_of t range (cond b (place_at 0 (child number (child part T)) ∷ []) []) ≡ []
      by true h = rw (h refl)
      by false h = refl

  -- of a numeric, from the size that its flags name
  fit_out : {T : Trees} {x : Shape} → Over t T x → NumbersFit x → out_of t (bytes (size_in (child numeric_flags T))) (sized_places T) ≡ []
  fit_out {T} {x} o h =
      let w = bytes (size_named x) in
      let same : size_in (child numeric_flags T) ≡ size_named x = ap (first_of size_words NO_SIZE) (over_classes (over_part numeric_flags o)) in
      let minimum = over_keeps w (over_part numeric_minimum o) h.minimum in
      let maximum = over_keeps w (over_part numeric_maximum o) h.maximum in
      let step = written_out w numeric_step step_value T (λ e. over_keeps w (over_part step_value (over_part numeric_step o)) h.step) in
      let default = written_out w numeric_default default_value T (λ e.
      over_keeps w (over_part default_value (over_part numeric_default o)) (h.default (subst (λ k. eqb k 1 ≡ true) (over_taken numeric_default o) e))) in
      let others = none_out w (written_place numeric_step step_value T) (written_place numeric_default default_value T) step default in
      subst (λ n. out_of t (bytes n) (sized_places T) ≡ []) (sym same) (rw (minimum, maximum) others)

  node_out : (A i : ℕ) {T : Trees} {x : Shape} → Over t T x → NodeKeeps A i x → out_of_range_here t A i T ≡ []
  unfolding out_of_range_here
  node_out A i {T} {x} o h = by (is_numeric A i) (eqb A <numeric_fl>) h
    where
      by :
          (numeric list : Bool) → KeepsAs numeric list (range_of A) x
          → out_of t (range_of A) (place_at 0 T ∷ []) ++ cond numeric (out_of t (bytes (size_in (child numeric_flags T))) (sized_places T)) [] ≡ []
      by false false h = rw (over_keeps (range_of A) o h)
      by false true h = rw (over_keeps (range_of A) o h.0)
      by true false h = rw (over_keeps (range_of A) o h.0) (fit_out o h.1)
      by true true h = absurd h

  pub over_ranged : {T : Trees} {x : Shape} → Over t T x → Ranged x → out_of_range t T ≡ []
  unfolding out_of_range gathered
  over_ranged over_nil h = refl
  over_ranged (over_leaf r o) h = over_ranged o h.1
  over_ranged (over_node {A = A} {i = i} o₁ o₂) h = rw (over_ranged o₁ h.1, node_out A i o₁ h.0, over_ranged o₂ h.2)

  -- ---- nor does a second size or display word stand in it

  node_seconds : (A i : ℕ) {T : Trees} {x : Shape} → Over t T x → NodeKeeps A i x → seconds_here A i T ≡ []
  unfolding seconds_here
  node_seconds A i {T} {x} o h = by (is_numeric A i) (eqb A <numeric_fl>) h
    where
      by : (numeric list : Bool) → KeepsAs numeric list (range_of A) x → cond list (seconds_in T) [] ≡ []
      by numeric false h = refl
      by false true h =
          let same = over_classes o in
          no_second false false (leaves T) (omega (arith, h.1.0, ap (count size_words) same)) (omega (arith, h.1.1, ap (count display_words) same))
      by true true h = absurd h

  pub over_seconds : {T : Trees} {x : Shape} → Over t T x → Ranged x → second_words T ≡ []
  unfolding second_words gathered
  over_seconds over_nil h = refl
  over_seconds (over_leaf r o) h = over_seconds o h.1
  over_seconds (over_node {A = A} {i = i} o₁ o₂) h = rw (over_seconds o₁ h.1, node_seconds A i o₁ h.0, over_seconds o₂ h.2)

  -- ---- and every numeric in it writes its step

  node_steps : (A i : ℕ) {T : Trees} {x : Shape} → Over t T x → NodeKeeps A i x → cond (is_numeric A i) (written numeric_step T) true ≡ true
  node_steps A i {T} {x} o h = by (is_numeric A i) (eqb A <numeric_fl>) h
    where
      by : (numeric list : Bool) → KeepsAs numeric list (range_of A) x → cond numeric (written numeric_step T) true ≡ true
      by false list h = refl
      by true false h = subst (λ k. eqb k 1 ≡ true) (sym (over_taken numeric_step o)) h.1.step_written
      by true true h = absurd h

  pub over_steps : {T : Trees} {x : Shape} → Over t T x → Ranged x → writes_steps T ≡ true
  unfolding every_numeric
  over_steps over_nil h = refl
  over_steps (over_leaf r o) h = over_steps o h.1
  over_steps (over_node {A = A} {i = i} o₁ o₂) h = rw (node_steps A i o₁ h.0, over_steps o₁ h.1, over_steps o₂ h.2)

-- ---- expressions

-- the values of an expression that can be printed
abbrev pub Fine : Formula → Type 0
Fine (f_number v) = v < 2 ^ 64
Fine (f_constant c) = Unit {0}
Fine (f_question q) = (0 < q) × (q < 65536)
Fine (f_rule q) = q < 2 ^ 64
Fine (f_not e) = Fine e
Fine (f_binary o l r) = Fine l × Fine r

level_plain : (n : ℕ) → n < 9 → Plain (lv (suc n))
unfolding range_of ranges
level_plain n b = record {
  range = nine (λ n. range_of (lv (suc n)) ≡ free) refl refl refl refl refl refl refl refl refl n b;
  no_item = nine (λ n. eqb (lv (suc n)) <item> ≡ false) refl refl refl refl refl refl refl refl refl n b;
  no_list = nine (λ n. eqb (lv (suc n)) <numeric_fl> ≡ false) refl refl refl refl refl refl refl refl refl n b;
}

tail_plain : (n : ℕ) → n < 9 → Plain (tl n)
unfolding range_of ranges
tail_plain n b = record {
  range = nine (λ n. range_of (tl n) ≡ free) refl refl refl refl refl refl refl refl refl n b;
  no_item = nine (λ n. eqb (tl n) <item> ≡ false) refl refl refl refl refl refl refl refl refl n b;
  no_list = nine (λ n. eqb (tl n) <numeric_fl> ≡ false) refl refl refl refl refl refl refl refl refl n b;
}

atom_plain : Plain <atom>
unfolding range_of ranges
atom_plain = record { range = refl; no_item = refl; no_list = refl }

operator_valid : (o : Operator) → operator_class o < class.NAME
operator_valid or = omega arith
operator_valid and = omega arith
operator_valid bit_or = omega arith
operator_valid bit_and = omega arith
operator_valid equal = omega arith
operator_valid not_equal = omega arith
operator_valid less = omega arith
operator_valid less_equal = omega arith
operator_valid greater = omega arith
operator_valid greater_equal = omega arith
operator_valid shift_left = omega arith
operator_valid shift_right = omega arith
operator_valid add = omega arith
operator_valid subtract = omega arith
operator_valid multiply = omega arith
operator_valid divide = omega arith
operator_valid modulo = omega arith

constant_valid : (c : Constant) → constant_class c < class.NAME
constant_valid true' = omega arith
constant_valid false' = omega arith
constant_valid zero' = omega arith
constant_valid one' = omega arith
constant_valid ones' = omega arith
constant_valid undefined' = omega arith

-- a shape that is ranged where what is beside it is
abbrev Carries : (Shape → Shape) → Type 0
Carries x = (f : Shape) → Ranged f → Ranged (x f)

no_tail_lem : (n : ℕ) → n < 9 → Ranged (s_node (tl n) 0 s_nil s_nil)
no_tail_lem n b = plain_node (tl n) 0 s_nil s_nil (tail_plain n b) tt tt

raise : (m : ℕ) (x : Shape → Shape) → Carries x → (n : ℕ) → n ≤ 9 → Carries (raised m x n)
raise m x h zero b f r = h f r
raise m x h (suc n) b f r = by (leb m n) refl (raise m x h n (omega arith))
  where
    by : (c : Bool) → leb m n ≡ c → Carries (raised m x n) → Ranged (raised m x (suc n) f)
    by true q k = rw (q, raised) (plain_node (lv (suc n)) 0 (raised m x n (s_node (tl n) 0 s_nil s_nil)) f (level_plain n b) (k (s_node (tl n) 0 s_nil s_nil) (no_tail_lem n b)) r)
    by false q k = rw (q, raised) (h f r)

atom_ranged : (i : ℕ) (c : Shape) → Ranged c → (n : ℕ) → n ≤ 9 → Carries (atomic i c n)
atom_ranged i c h n b = raise 0 (λ g. s_node <atom> i c g) (λ f r. plain_node <atom> i c f atom_plain h r) n b

pub numeral_large : (v : ℕ) → v < 2 ^ 64 → Ranged (numeral_shape <large> v s_nil)
unfolding range_of ranges
numeral_large v h = ((omega arith, omega arith), (h, tt), tt)

question_ranged : (q : ℕ) → (0 < q) × (q < 65536) → Ranged (question_under q)
unfolding range_of ranges
question_ranged q h = (omega arith, (omega arith, (tt, ((omega (arith, h.0), omega (arith, h.1)), (omega (arith, h.1), tt), tt), (omega arith, tt))))

rule_ranged : (q : ℕ) → q < 2 ^ 64 → Ranged (rule_under q)
rule_ranged q h = (omega arith, (omega arith, (h, (omega arith, tt))))

module _ (o : Operator) (x y : ℕ → Shape → Shape) (h : (n : ℕ) → n < 9 → Carries (x n)) (k : (n : ℕ) → n ≤ 9 → Carries (y n)) where
  tail_ranged : (n : ℕ) → n < 9 → Carries (tail_of o y n)
  tail_ranged n b f r = plain_node (tl n) (alternative o) (s_leaf (sign (operator_class o)) (y n f)) s_nil (tail_plain n b) (operator_valid o, k n (omega arith) f r) tt

  joining_ranged : Carries (joining o x y)
  joining_ranged f r =
      let b = tight_lt o in
      plain_node (lv (suc (tight o))) 0 (x (tight o) (tail_of o y (tight o) (s_node (tl (tight o)) 0 s_nil s_nil))) f (level_plain (tight o) b) (h (tight o) b _ (tail_ranged (tight o) b (s_node (tl (tight o)) 0 s_nil s_nil) (no_tail_lem (tight o) b))) r

  binary_ranged : (n : ℕ) → n ≤ 9 → Carries (binary_tree o x y n)
  binary_ranged n b f r = by (leb n (tight o))
    where
      by : (c : Bool) → Ranged (paren c (suc (tight o)) (joining o x y) n f)
      by true = atom_ranged 1 (s_leaf (sign class.open_paren) (raised (suc (tight o)) (joining o x y) 9 (s_leaf (sign class.close_paren) s_nil))) (omega arith, raise (suc (tight o)) (joining o x y) joining_ranged 9 (omega arith) (s_leaf (sign class.close_paren) s_nil) (omega arith, tt)) n b f r
      by false = raise (suc (tight o)) (joining o x y) joining_ranged n b f r

pub record Both (e : Formula) : Type 0 where
  pub whole : (n : ℕ) → n ≤ 9 → Carries (tree e n)
  pub first : (n : ℕ) → n < 9 → Carries (chain e n)

pub formula_ranged : (e : Formula) → Fine e → Both e
formula_ranged (f_number v) h = let k = atom_ranged 8 (numeral_shape <large> v s_nil) (numeral_large v h) in record { whole = k; first = λ n b. k n (omega arith) }
formula_ranged (f_constant c) h = let k = atom_ranged (constant_alternative c) (s_leaf (sign (constant_class c)) s_nil) (constant_valid c, tt) in record { whole = k; first = λ n b. k n (omega arith) }
formula_ranged (f_question q) h = let k = atom_ranged 9 (question_under q) (question_ranged q h) in record { whole = k; first = λ n b. k n (omega arith) }
formula_ranged (f_rule q) h = let k = atom_ranged 10 (rule_under q) (rule_ranged q h) in record { whole = k; first = λ n b. k n (omega arith) }
formula_ranged (f_not e) h =
    let k = atom_ranged 0 (s_leaf (sign class.«NOT») (tree e 0 s_nil)) (omega arith, (formula_ranged e h).whole 0 (omega arith) s_nil tt) in
    record { whole = k; first = λ n b. k n (omega arith) }
formula_ranged (f_binary o l r) h = by (formula_ranged l h.0) (formula_ranged r h.1)
  where
    by : Both l → Both r → Both (f_binary o l r)
    by x y =
        let k = binary_ranged o (chain l) (tree r) x.first y.whole in
        record { whole = k; first = λ n b f z. pick n b f z (eqb (tight o) n) refl k }
      where
        pick : (n : ℕ) → n < 9 → (f : Shape) → Ranged f → (c : Bool) → eqb (tight o) n ≡ c → ((n : ℕ) → n ≤ 9 → Carries (binary_tree o (chain l) (tree r) n)) → Ranged (chain (f_binary o l r) n f)
        pick n b f z true q k = rw (q, chain) (x.first n b (tail_of o (tree r) n f) (tail_ranged o (chain l) (tree r) x.first y.whole n b f z))
        pick n b f z false q k = rw (q, chain) (k n (omega arith) f z)
