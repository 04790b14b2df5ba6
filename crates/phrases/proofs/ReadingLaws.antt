-- What an element does, case by case.
-- Assumes nothing.
use Prim.Native.Nat.{ℕ, zero, suc, ◌-◌, ◌<◌}
use mathlib.Core.Path.{◌≡◌, refl, sym, ap, ◌∙◌}
use mathlib.Core.Bool.{true, false}
use mathlib.Core.List.{List, [], ◌∷◌}
use mathlib.Core.Logic.{◌≢◌}
use native.Mathlib.Omega.{arith}
use lib.ListN.{get_or, drop}
use borrow.Author.Tests.{eq-eqb, ne_eqb}
use Rattle.lexemes.specs.Classes.{NAME}
use Rattle.ll1.specs.ParseTable.{member}
use Rattle.elements.specs.Kinds.{MAYBE, GROUP, is_flag_list, starts_of}
use Rattle.phrases.specs.Phrase.{Kept, with_entry, Reader, ready, skipping, passing, refusing, leaving_one, taking, taking_flags, fitting, reading, step_of, phrase_from}
use Rattle.elements.proofs.KindLaws.{starts_word, not_kept, not_list}

module _ (s : List ℕ) (x : Reader) (e next : ℕ) where
  -- an optional group that is there, and one that is not
  pub reads_group : e ≡ MAYBE → x.token.class ≡ next → reading s x e next ≡ x
  unfolding reading
  reads_group m h = rw (eq-eqb e MAYBE m, eq-eqb x.token.class next h)

  pub leaves_group : {k : Kept} → e ≡ MAYBE → x.token.class ≢ next → k ≡ with_entry x.kept 0 → skipping (ready x.token x.noted k) GROUP ≡ reading s x e next
  unfolding reading
  leaves_group m h q = rw (eq-eqb e MAYBE m, ne_eqb x.token.class next h, q)

  -- any other element
  pub reads_tokens : e ≢ MAYBE → reading s x e next ≡ fitting s x e
  unfolding reading
  reads_tokens m = rw (ne_eqb e MAYBE m)

  -- an element that is left out, a refusal that is handed on, and any other element
  pub step_left : x.skip ≢ 0 → step_of s x e next ≡ leaving_one x
  unfolding step_of
  step_left z = rw (ne_eqb x.skip 0 z)

  pub step_off : x.skip ≡ 0 → x.no ≢ 0 → step_of s x e next ≡ x
  unfolding step_of
  step_off z h = rw (eq-eqb x.skip 0 z, ne_eqb x.no 0 h)

  pub step_on : x.skip ≡ 0 → x.no ≡ 0 → step_of s x e next ≡ reading s x e next
  unfolding step_of
  step_on z h = rw (eq-eqb x.skip 0 z, eq-eqb x.no 0 h)

module _ (s : List ℕ) (x : Reader) (e : ℕ) where
  -- a token that does not fit
  pub refuses : member x.token.class (starts_of e) ≡ false → fitting s x e ≡ refusing x x.token
  refuses h = rw h

  -- one that does
  pub takes_flags : member x.token.class (starts_of e) ≡ true → is_flag_list e ≡ true → fitting s x e ≡ taking_flags s x e
  takes_flags h f = rw (h, f)

  pub takes_token : member x.token.class (starts_of e) ≡ true → is_flag_list e ≡ false → fitting s x e ≡ taking s x e
  takes_token h f = rw (h, f)

  -- a sign or a reserved word that is there, and one that is not
  pub takes_word : e < NAME → x.token.class ≡ e → fitting s x e ≡ passing s x
  unfolding taking
  takes_word l q = rw (starts_word e (omega arith), q, eq-eqb e e refl, not_list e l, not_kept e l)

  pub refuses_word : e < NAME → x.token.class ≢ e → fitting s x e ≡ refusing x x.token
  refuses_word l q = rw (starts_word e (omega arith), ne_eqb e x.token.class (λ z. q (sym z)))

-- ---- the rest of a pattern

module _ (s : List ℕ) where
  -- elements that are left out
  pub left_out : (n : ℕ) (p : List ℕ) (x : Reader) → phrase_from s p (skipping x n) ≡ phrase_from s (drop n p) (skipping x 0)
  unfolding phrase_from
  left_out zero p x = refl
  left_out (suc n) [] x = refl
  left_out (suc n) (e ∷ p) x =
      ap (phrase_from s p) (step_left s (skipping x (suc n)) e (get_or p 0 0) (λ z. omega arith) ∙ ap (skipping x) (let q : suc n - 1 ≡ n = omega arith in q)) ∙ left_out n p x

  -- a refusal is handed on
  pub handed_on : (p : List ℕ) (x : Reader) → x.skip ≡ 0 → x.no ≢ 0 → phrase_from s p x ≡ x
  unfolding phrase_from
  handed_on [] x z h = ap (skipping x) (sym z)
  handed_on (e ∷ p) x z h = ap (phrase_from s p) (step_off s x e (get_or p 0 0) z h) ∙ handed_on p x z h
