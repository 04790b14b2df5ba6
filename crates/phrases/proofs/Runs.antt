-- The theorem over patterns: one that spells symbols of the grammar reads them.
-- Assumes nothing.
use Prim.Native.Nat.{ℕ, ◌+◌, ◌≤◌}
use mathlib.Core.Path.{◌≡◌, refl, sym, ap, ◌∙◌, subst}
use mathlib.Core.List.{List, [], ◌∷◌}
use mathlib.Core.Logic.{◌≢◌}
use native.Mathlib.Omega.{arith}
use native.Mathlib.Decide.{ℕ_discrete}
use lib.ListN.{get_or}
use Rattle.ll1.specs.Trees.{Symbol}
use Rattle.grammar.specs.Notation.{t, r}
use Rattle.elements.specs.Kinds.{MAYBE, GROUP}
use Rattle.elements.proofs.Ways.{width}
use Rattle.elements.proofs.Alternatives.{Optional}
use Rattle.elements.proofs.Spelling.{Stands, by_word, by_kind, by_flags, by_numeric_flags, widths, Spells, spells_nil, spells_one, spells_rule, spells_maybe}
use Rattle.phrases.specs.Phrase.{Reader, step_of, phrase_from}
use Rattle.phrases.proofs.ReadingLaws.{reads_group, leaves_group, step_off, step_on, left_out, handed_on}
use Rattle.phrases.proofs.Pieces.{One, Many, many_none, one_more, one_off}
use Rattle.phrases.proofs.Nodes.{without, one_single, one_there, one_absent}
use Rattle.phrases.proofs.Taking.{Element, word, kind}
use Rattle.phrases.proofs.FlagLists.{flag_list_lem, numeric_flag_list}

-- an element reads the symbol that it stands for
element : {x : Symbol} {e : ℕ} → Stands x e → Element x e
element (by_word {k} h) = word k h
element (by_kind w) = kind w
element by_flags = flag_list_lem
element by_numeric_flags = numeric_flag_list

-- ---- a step

module _ (s : List ℕ) (c : Reader) (e n : ℕ) (z : c.skip ≡ 0) where
  one_step : {x : Symbol} → Element x e → One s x (width e) c (step_of s c e n)
  one_step {x} el = by (ℕ_discrete c.no 0)
    where
      by : Dec (c.no ≡ 0) → One s x (width e) c (step_of s c e n)
      by (yes h) = subst (λ d. One s x (width e) c d) (sym (step_on s c e n z h)) (el s c n h)
      by (no h) = subst (λ d. One s x (width e) c d) (sym (step_off s c e n z h)) (one_off s x (width e) c z h)

-- ---- a group that may be absent

module _ (s p : List ℕ) (c : Reader) (k i j l : ℕ) (z : c.skip ≡ 0) where
  group_off : c.no ≢ 0 → phrase_from s (MAYBE ∷ k ∷ i ∷ j ∷ l ∷ p) c ≡ phrase_from s p c
  group_off h = handed_on s (MAYBE ∷ k ∷ i ∷ j ∷ l ∷ p) c z h ∙ sym (handed_on s p c z h)

  group_there : c.no ≡ 0 → c.token.class ≡ k → phrase_from s (MAYBE ∷ k ∷ i ∷ j ∷ l ∷ p) c ≡ phrase_from s (k ∷ i ∷ j ∷ l ∷ p) c
  unfolding phrase_from
  group_there h e = ap (phrase_from s (k ∷ i ∷ j ∷ l ∷ p)) (step_on s c MAYBE k z h ∙ reads_group s c MAYBE k refl e)

  group_absent : c.no ≡ 0 → c.token.class ≢ k → phrase_from s (MAYBE ∷ k ∷ i ∷ j ∷ l ∷ p) c ≡ phrase_from s p (without c)
  unfolding phrase_from
  group_absent h e = ap (phrase_from s (k ∷ i ∷ j ∷ l ∷ p)) (step_on s c MAYBE k z h ∙ sym (leaves_group s c MAYBE k refl e refl)) ∙ left_out s GROUP (k ∷ i ∷ j ∷ l ∷ p) (without c)

-- ---- the theorem

-- from c the pattern p leads to where q is left, and has read the symbols
pub record Ran (s : List ℕ) (α : List Symbol) (p q : List ℕ) (c : Reader) : Type 0 where
  pub to : Reader
  pub same : phrase_from s p c ≡ phrase_from s q to
  pub most : ℕ
  pub few : most + widths q ≤ widths p
  pub many : Many s α most c to

module _ (s : List ℕ) {A k i j l : ℕ} {β α : List Symbol} {p o : List ℕ} where
  maybe_ran : Optional A k β → 1 ≤ widths (k ∷ i ∷ j ∷ l ∷ []) → ((c : Reader) → c.skip ≡ 0 → Ran s (t k ∷ β) (k ∷ i ∷ j ∷ l ∷ p) p c) → ((c : Reader) → c.skip ≡ 0 → Ran s α p o c) → (c : Reader) → c.skip ≡ 0 → Dec (c.no ≡ 0) → Dec (c.token.class ≡ k) → Ran s (r A ∷ α) (MAYBE ∷ k ∷ i ∷ j ∷ l ∷ p) o c
  maybe_ran w g inner after c z (no h) e =
      let b = after c z in
      let m = b.few in
      record { to = b.to; same = group_off s p c k i j l z h ∙ b.same; most = 1 + b.most; few = omega arith; many = one_more s (one_off s (r A) 1 c z h) b.many }
  maybe_ran w g inner after c z (yes h) (yes e) =
      let a = inner c z in
      let b = after a.to a.many.skip in
      let m = a.few in
      let n = b.few in
      record { to = b.to; same = group_there s p c k i j l z h e ∙ (a.same ∙ b.same); most = a.most + b.most; few = omega arith; many = one_more s (one_there s w h e a.many) b.many }
  maybe_ran w g inner after c z (yes h) (no e) =
      let b = after (without c) refl in
      let m = b.few in
      record { to = b.to; same = group_absent s p c k i j l z h e ∙ b.same; most = 1 + b.most; few = omega arith; many = one_more s (one_absent s c w h e) b.many }

pub ran : (s : List ℕ) {α : List Symbol} {p q : List ℕ} → Spells α p q → (c : Reader) → c.skip ≡ 0 → Ran s α p q c
unfolding phrase_from
ran s spells_nil c z = record { to = c; same = refl; most = 0; few = omega arith; many = many_none s c z }
ran s (spells_one {e = e} {p = p} el sp) c z =
    let o = one_step s c e (get_or p 0 0) z (element el) in
    let b = ran s sp (step_of s c e (get_or p 0 0)) o.skip in
    let m = b.few in
    record { to = b.to; same = b.same; most = width e + b.most; few = omega arith; many = one_more s o b.many }
ran s (spells_rule w sp₁ sp₂) c z =
    let a = ran s sp₁ c z in
    let b = ran s sp₂ a.to a.many.skip in
    let m = a.few in
    let n = b.few in
    record { to = b.to; same = a.same ∙ b.same; most = a.most + b.most; few = omega arith; many = one_more s (one_single s w a.many) b.many }
ran s (spells_maybe {k = k} w g sp₁ sp₂) c z =
    maybe_ran s w g (λ c' z'. ran s sp₁ c' z') (λ c' z'. ran s sp₂ c' z') c z (ℕ_discrete c.no 0) (ℕ_discrete c.token.class k)
