-- What an absent step is shows in column C alone: no stage looks at it, so that every answer is the same whatever it is (document 02, W-208).
-- Assumes nothing.
use Prim.Native.Nat.{ℕ, zero, suc, ◌+◌}
use mathlib.Core.Path.{◌≡◌, refl, ap, ap₂, sym, ◌∙◌}
use mathlib.Core.Bool.{Bool, true, false, cond, ◌&&◌}
use mathlib.Core.List.{List, [], ◌∷◌, ◌++◌, map}
use mathlib.Core.Logic.{◌≢◌}
use native.Mathlib.Omega.{arith}
use lib.Dec.{eqb, ltb}
use lib.ListN.{length, get_or, drop, length-map}
use lib.Seq.{get_or-set_other, set_comm}
use Rattle.lexemes.proofs.Lists.{either}
use Rattle.rows.specs.Codes as code
use Rattle.rows.specs.Columns as column
use Rattle.numbers.specs.Numbers.{numbered, free_count}
use Rattle.rule_steps.proofs.Same.{SameCells, SameRows, no_rows, add_row, steps_same}
use Rattle.rule_steps.proofs.Same as Same
use Rattle.ll1.specs.Trees.{Trees, nil, leaf, node}
use Rattle.ll1.proofs.Basics.{clash, both}
use Rattle.grammar.specs.Rules.{<item>}
use Rattle.grammar.specs.Positions.{item_numeric}
use Rattle.grammar.specs.Source.{number_at}
use Rattle.grammar.specs.Ranges.{is_numeric}
use Rattle.answers.specs.Rows.{Draft, item_by, otherwise, own_rows_by, parent_in, drafts_by, rules_in}
use Rattle.answers.specs.Stages.{cell, is, asks, writes, any, faults_after, repeated_forms, repeated_questions, same_sort, declares, repeated_names}
use Rattle.answers.specs.Stages.{place_of, rules_over_limit, form_round, finds, refers, in_vain, unfound, below, beside, numeric_faults, option_faults}
use Rattle.answers.specs.Stages.{bad_choices, own_numbers, with_cell, with_numbers, numbered_rows, draft_rows, own_of_first, with_references, settled, finished}
use Rattle.answers.specs.Stages.{on_circle, circular_references}
use Rattle.answers.specs.Answer.{accepts, needs, stage, answer_of}
use Rattle.answers.specs.MissingStep.{without_step, every_numeric}
use Rattle.answers.proofs.FoundRows.{map_append}
use Rattle.answers.proofs.Forms.{round_same}

-- ---- the rows of trees, for two values of an absent step: what is the same of each numeric is the same of all rows

module _ {X : Type 0} (g : Draft → X) where
  -- drafts of which g tells the same, one by one
  abbrev pub Alike : List Draft → List Draft → Type 0
  Alike ds es = map g ds ≡ map g es

  alike_append : (ds es ds' es' : List Draft) → Alike ds es → Alike ds' es' → Alike (ds ++ ds') (es ++ es')
  alike_append ds es ds' es' e h = map_append g ds ds' ∙ ap₂ ◌++◌ e h ∙ sym (map_append g es es')

  same_count : (ds es : List Draft) → Alike ds es → length ds ≡ length es
  same_count ds es e = sym (length-map ds g) ∙ ap length e ∙ length-map es g

  same_parent : (number_at_lem : ℕ → ℕ) (parent at : ℕ) (ds es : List Draft) → Alike ds es → parent_in number_at_lem parent at ds ≡ parent_in number_at_lem parent at es
  same_parent number_at_lem parent at [] [] e = refl
  same_parent number_at_lem parent at (d ∷ ds) (x ∷ es) e = refl
  same_parent number_at_lem parent at [] (x ∷ es) e = clash cc
  same_parent number_at_lem parent at (d ∷ ds) [] e = clash cc

module _
    (number_at_lem : ℕ → ℕ) (a b : ℕ) {X : Type 0} (g : Draft → X) (p : Trees → Bool)
    (same : (parent : ℕ) (c : Trees) → p c ≡ true → g (item_by number_at_lem a parent item_numeric c) ≡ g (item_by number_at_lem b parent item_numeric c))
  where
    item_alike :
        (parent i : ℕ) (c : Trees)
        → cond (eqb i item_numeric) (p c) true ≡ true → g (item_by number_at_lem a parent i c) ≡ g (item_by number_at_lem b parent i c)
    item_alike parent zero c h = refl
    item_alike parent (suc zero) c h = refl
    item_alike parent (suc (suc zero)) c h = refl
    item_alike parent (suc (suc (suc zero))) c h = refl
    item_alike parent (suc (suc (suc (suc zero)))) c h = refl
    item_alike parent (suc (suc (suc (suc (suc zero))))) c h = same parent c h
    item_alike parent (suc (suc (suc (suc (suc (suc i)))))) c h = refl

    own_alike :
        (parent at n A i : ℕ) (c : Trees)
        → cond (is_numeric A i) (p c) true ≡ true → Alike g (own_rows_by number_at_lem a parent at n A i c) (own_rows_by number_at_lem b parent at n A i c)
    own_alike parent at n A i c h =
        either (eqb A <item>) (λ e. rw (e, otherwise, item_alike parent i c (rw e at h))) (λ e. rw (e, otherwise))

    pub drafts_alike :
        (f : Trees) (parent at n : ℕ)
        → every_numeric p f ≡ true → Alike g (drafts_by number_at_lem a f parent at n) (drafts_by number_at_lem b f parent at n)
    unfolding every_numeric
    drafts_alike nil parent at n h = refl
    drafts_alike (leaf t f) parent at n h = drafts_alike f parent at n h
    drafts_alike (node A i c f) parent at n h =
        let here = both _ _ h in
        let rest = both (every_numeric p c) (every_numeric p f) here.1 in
        let own = own_rows_by number_at_lem a parent at n A i c in
        let own' = own_rows_by number_at_lem b parent at n A i c in
        let e = own_alike parent at n A i c here.0 in
        let under = drafts_by number_at_lem a c (parent_in number_at_lem parent at own) (at + length own) n in
        let under' = drafts_by number_at_lem b c (parent_in number_at_lem parent at own') (at + length own') n in
        let h : Alike g under under' = rw (same_parent g number_at_lem parent at own own' e, same_count g own own' e) (drafts_alike c _ _ n rest.0) in
        let within = alike_append g own own' under under' e h in
        let m = n + rules_in (node A i c nil) in
        let later : Alike g (drafts_by number_at_lem a f parent (at + length (own ++ under)) m) (drafts_by number_at_lem b f parent (at + length (own' ++ under')) m) =
        rw (same_count g (own ++ under) (own' ++ under') within) (drafts_alike f _ _ m rest.1) in
        alike_append g (own ++ under) (own' ++ under') _ _ within later

-- ---- all rows but for column C

-- the draft with nothing there
unfoldable pub bare : Draft → Draft
bare d = with_cell column.C 0 d

every_tree : (f : Trees) → every_numeric (λ c. true) f ≡ true
unfolding every_numeric
every_tree nil = refl
every_tree (leaf t f) = every_tree f
every_tree (node A i c f) = rw (any_test (is_numeric A i), every_tree c, every_tree f)
  where
    any_test : (t : Bool) → cond t true true ≡ true
    any_test true = refl
    any_test false = refl

drafts_besides :
    (number_at_lem : ℕ → ℕ) (a b : ℕ) (f : Trees) (parent at n : ℕ)
    → Alike bare (drafts_by number_at_lem a f parent at n) (drafts_by number_at_lem b f parent at n)
unfolding bare
drafts_besides number_at_lem a b f parent at n = drafts_alike number_at_lem a b bare (λ c. true) (λ parent c h. refl) f parent at n (every_tree f)

-- ---- what the stages look at

kept : (c : ℕ) → c ≢ column.C → (d : Draft) → cell c (bare d) ≡ cell c d
unfolding bare
kept c h d = get_or-set_other d.row column.C c 0 0 h

code_kept : (d : Draft) → cell column.CODE (bare d) ≡ cell column.CODE d
code_kept = kept column.CODE (λ e. omega arith)

parent_kept : (d : Draft) → cell column.PARENT (bare d) ≡ cell column.PARENT d
parent_kept = kept column.PARENT (λ e. omega arith)

own_kept : (d : Draft) → cell column.OWN (bare d) ≡ cell column.OWN d
own_kept = kept column.OWN (λ e. omega arith)

name_kept : (d : Draft) → cell column.NAME (bare d) ≡ cell column.NAME d
name_kept = kept column.NAME (λ e. omega arith)

a_kept : (d : Draft) → cell column.A (bare d) ≡ cell column.A d
a_kept = kept column.A (λ e. omega arith)

own_mark : (d : Draft) → (bare d).own_at ≡ d.own_at
unfolding bare
own_mark d = refl

any_bare : (p q : Draft → Bool) → ((d : Draft) → p (bare d) ≡ q d) → (ds : List Draft) → any p (map bare ds) ≡ any q ds
unfolding any
any_bare p q h [] = refl
any_bare p q h (d ∷ ds) = rw (h d, any_bare p q h ds)

faults_bare :
    (f g : List Draft → Draft → List ℕ)
    → ((before : List Draft) (d : Draft) → f (map bare before) (bare d) ≡ g before d)
    → (before ds : List Draft) → faults_after f (map bare before) (map bare ds) ≡ faults_after g before ds
unfolding faults_after
faults_bare f g h before [] = refl
faults_bare f g h before (d ∷ ds) = ap₂ ◌++◌ (h before d) (faults_bare f g h (d ∷ before) ds)

-- 7
abbrev form_of : ℕ → Draft → Bool
form_of k e = is code.FORM e && eqb (cell column.OWN e) k

form_kept : (k : ℕ) (ds : List Draft) → any (form_of k) (map bare ds) ≡ any (form_of k) ds
form_kept k ds = any_bare (form_of k) (form_of k) (λ e. rw (code_kept e, own_kept e)) ds

forms_bare : (ds : List Draft) → repeated_forms (map bare ds) ≡ repeated_forms ds
unfolding repeated_forms
forms_bare ds = faults_bare _ _ (λ before d. rw (code_kept d, own_kept d, own_mark d, form_kept (cell column.OWN d) before)) [] ds

-- 8
writes_kept : (d : Draft) → writes (bare d) ≡ writes d
writes_kept d = rw (code_kept d, own_mark d)

abbrev question_of : ℕ → Draft → Bool
question_of k e = writes e && eqb (cell column.OWN e) k

question_kept : (k : ℕ) (ds : List Draft) → any (question_of k) (map bare ds) ≡ any (question_of k) ds
question_kept k ds = any_bare (question_of k) (question_of k) (λ e. rw (writes_kept e, own_kept e)) ds

questions_bare : (ds : List Draft) → repeated_questions (map bare ds) ≡ repeated_questions ds
unfolding repeated_questions
questions_bare ds = faults_bare _ _ (λ before d. rw (writes_kept d, own_kept d, own_mark d, question_kept (cell column.OWN d) before)) [] ds

limit_mark : (d : Draft) → (bare d).limit_at ≡ d.limit_at
unfolding bare
limit_mark d = refl

default_mark : (d : Draft) → (bare d).default_at ≡ d.default_at
unfolding bare
default_mark d = refl

module _ (s : List ℕ) where
  -- 9
  abbrev namesake : Draft → ℕ → Draft → Bool
  namesake d p e = same_sort s d e && declares s p e

  named_kept : (d : Draft) (p : ℕ) (ds : List Draft) → any (namesake d p) (map bare ds) ≡ any (namesake d p) ds
  named_kept d p ds = any_bare (namesake d p) (namesake d p) (λ e. rw (code_kept e, name_kept e)) ds

  names_bare : (ds : List Draft) → repeated_names s (map bare ds) ≡ repeated_names s ds
  unfolding repeated_names
  names_bare ds = faults_bare _ _ (λ before d. rw (name_kept d, code_kept d, named_kept d (place_of (cell column.NAME d)) before)) [] ds

  -- 11
  module _ (ds : List Draft) where
    column_kept : (c : ℕ) → c ≢ column.C → map (cell c) (map bare ds) ≡ map (cell c) ds
    column_kept c h = same ds
      where
        same : (es : List Draft) → map (cell c) (map bare es) ≡ map (cell c) es
        same [] = refl
        same (e ∷ es) = ap₂ ◌∷◌ (kept c h e) (same es)

    round_kept : (d : Draft) → form_round (map bare ds) (bare d) ≡ form_round ds d
    round_kept d =
        round_same (map bare ds) ds (column_kept column.CODE (λ e. omega arith)) (column_kept column.PARENT (λ e. omega arith)) (bare d) d (parent_kept d)

    finds_kept : (d e : Draft) → finds s (map bare ds) (bare d) (bare e) ≡ finds s ds d e
    finds_kept d e = rw (round_kept d, code_kept d, own_mark d, a_kept d, code_kept e, name_kept e, parent_kept e, own_kept e, own_mark e)

    vain_kept : (d : Draft) → in_vain s (map bare ds) (bare d) ≡ in_vain s ds d
    vain_kept d =
        rw (
          any_bare (finds s (map bare ds) (bare d)) (finds s ds d) (finds_kept d) ds,
          code_kept d,
          a_kept d,
          own_mark d,
          limit_mark d,
          form_kept (cell column.A d) ds,
        )

  unfound_bare : (ds : List Draft) → unfound s (map bare ds) ≡ unfound s ds
  unfolding unfound
  unfound_bare ds = faults_bare (λ before d. in_vain s (map bare ds) d) (λ before d. in_vain s ds d) (λ before d. vain_kept ds d) [] ds

-- 10
rules_bare : (ds : List Draft) → rules_over_limit (map bare ds) ≡ rules_over_limit ds
unfolding rules_over_limit
rules_bare ds = faults_bare _ _ (λ before d. rw (code_kept d, own_kept d, kept column.PLACE (λ e. omega arith) d)) [] ds

-- 12
below_kept : (d : Draft) (x y : ℕ) → below (bare d) x y ≡ below d x y
unfolding below
below_kept d x y = rw (kept column.SIZE (λ e. omega arith) d)

numeric_kept : (d : Draft) → numeric_faults (bare d) ≡ numeric_faults d
numeric_kept d =
    rw (
      below_kept d (cell column.B (bare d)) (cell column.A (bare d)),
      below_kept d (cell column.D (bare d)) (cell column.A (bare d)),
      below_kept d (cell column.B (bare d)) (cell column.D (bare d)),
      a_kept d,
      kept column.B (λ e. omega arith) d,
      kept column.D (λ e. omega arith) d,
      limit_mark d,
      default_mark d,
    )

beside_kept : (d e : Draft) → beside (bare d) (bare e) ≡ beside d e
beside_kept d e = rw (code_kept e, parent_kept e, parent_kept d)

option_kept : (before : List Draft) (d : Draft) → option_faults (map bare before) (bare d) ≡ option_faults before d
option_kept before d =
    rw (
      any_bare (λ e. beside (bare d) e && eqb (cell column.A e) (cell column.A (bare d))) (λ e. beside d e && eqb (cell column.A e) (cell column.A d))
          (λ e. rw (beside_kept d e, a_kept e, a_kept d)) before,
      any_bare (λ e. beside (bare d) e && ltb 0 e.default_at) (λ e. beside d e && ltb 0 e.default_at)
          (λ e. rw (beside_kept d e, default_mark e)) before,
      limit_mark d,
      default_mark d,
    )

choices_bare : (ds : List Draft) → bad_choices (map bare ds) ≡ bad_choices ds
unfolding bad_choices
choices_bare ds = faults_bare _ _ (λ before d. rw (numeric_kept d, option_kept before d, code_kept d)) [] ds

-- ---- numbers and references

numbers_kept : (ds : List Draft) → own_numbers (map bare ds) ≡ own_numbers ds
unfolding own_numbers
numbers_kept [] = refl
numbers_kept (d ∷ ds) = rw (code_kept d, own_kept d, numbers_kept ds)

with_kept : (c v : ℕ) → c ≢ column.C → (d : Draft) → with_cell c v (bare d) ≡ bare (with_cell c v d)
unfolding bare
with_kept c v h d =
    ap (λ (r : List ℕ). record { row = r; own_at = d.own_at; limit_at = d.limit_at; default_at = d.default_at })
    (set_comm d.row column.C c 0 v (λ e. h (sym e)))

numbered_bare : (ns : List ℕ) (ds : List Draft) → with_numbers ns (map bare ds) ≡ map bare (with_numbers ns ds)
unfolding with_numbers
numbered_bare ns [] = refl
numbered_bare ns (d ∷ ds) =
    either (asks d)
    (λ e. rw (code_kept d, e) (ap₂ ◌∷◌ (with_kept column.OWN (get_or ns 0 0) (λ z. omega arith) d) (numbered_bare (drop 1 ns) ds)))
    (λ e. rw (code_kept d, e) (ap (◌∷◌ (bare d)) (numbered_bare ns ds)))

first_bare : (s : List ℕ) (p q : Draft → Bool) → ((d : Draft) → p (bare d) ≡ q d) → (ds : List Draft) → own_of_first s p (map bare ds) ≡ own_of_first s q ds
unfolding own_of_first
first_bare s p q h [] = refl
first_bare s p q h (d ∷ ds) = rw (h d, own_kept d, first_bare s p q h ds)

module _ (s : List ℕ) where
  references_bare : (ds : List Draft) → with_references s (map bare ds) ≡ map bare (with_references s ds)
  unfolding with_references
  references_bare ds = by ds
    where
      found : Draft → Draft
      found d = cond (refers s d) (with_cell column.A (own_of_first s (finds s ds d) ds) d) d

      found' : Draft → Draft
      found' d = cond (refers s d) (with_cell column.A (own_of_first s (finds s (map bare ds) d) (map bare ds)) d) d

      one : (d : Draft) → found' (bare d) ≡ bare (found d)
      one d =
          either (refers s d)
          (λ e.
          rw (code_kept d, e, first_bare s (finds s (map bare ds) (bare d)) (finds s ds d) (finds_kept s ds d) ds)
          (with_kept column.A _ (λ z. omega arith) d))
          (λ e. rw (code_kept d, e))

      by : (es : List Draft) → map found' (map bare es) ≡ map bare (map found es)
      by [] = refl
      by (e ∷ es) = ap₂ ◌∷◌ (one e) (by es)

  settled_bare : (ds : List Draft) → settled s (map bare ds) ≡ map bare (settled s ds)
  unfolding settled numbered_rows
  settled_bare ds = rw (numbers_kept ds, numbered_bare (numbered (own_numbers ds)) ds) (references_bare (with_numbers (numbered (own_numbers ds)) ds))

  -- 14
  row_same : (d : Draft) → SameCells (bare d).row d.row
  row_same d = record { code = code_kept d; parent = parent_kept d; own = own_kept d; a = a_kept d }

  rows_same : (ds : List Draft) → SameRows (draft_rows (map bare ds)) (draft_rows ds)
  rows_same [] = no_rows
  rows_same (d ∷ ds) = add_row (row_same d) (rows_same ds)

  circles_bare : (ds : List Draft) → circular_references (map bare ds) ≡ circular_references ds
  unfolding circular_references on_circle
  circles_bare ds =
      faults_bare _ _ (λ before d. rw (steps_same (rows_same ds), Same.round_same (rows_same ds) (row_same d), a_kept d, own_mark d)) [] ds

  -- ---- so that every answer is the same

  answer_bare : (ds : List Draft) (n : ℕ) → answer_of s (map bare ds) n ≡ answer_of s ds n
  unfolding answer_of
  answer_bare ds n =
      let count = length-map ds bare in
      let circles = ap circular_references (settled_bare ds) ∙ circles_bare (settled s ds) in
      λ i.
      elim (ltb n (count i)) [
        | true ↦ needs (count i)
        | false ↦
            stage 7 (forms_bare ds i)
            (stage 8 (questions_bare ds i)
            (stage 9 (names_bare s ds i)
            (stage 10 (rules_bare ds i)
            (stage 11 (unfound_bare s ds i)
            (stage 12 (choices_bare ds i)
            (stage 14 (circles i) (accepts (count i) (free_count (numbered (numbers_kept ds i))))))))))
      ]

  -- "An absent step is now 1": nothing is checked against it
  pub answer_same : (a b : ℕ) (f : Trees) (n : ℕ) → answer_of s (drafts_by (number_at s) a f 0 0 0) n ≡ answer_of s (drafts_by (number_at s) b f 0 0 0) n
  answer_same a b f n =
      let ds = drafts_by (number_at s) a f 0 0 0 in
      let es = drafts_by (number_at s) b f 0 0 0 in
      sym (answer_bare ds n) ∙ ap (λ (l : List Draft). answer_of s l n) (drafts_besides (number_at s) a b f 0 0 0) ∙ answer_bare es n

  -- ---- and the rows are, but for column C

  finished_bare : (ds : List Draft) → map without_step (finished s ds) ≡ finished s (map bare ds)
  unfolding bare finished
  finished_bare ds = rows (settled s ds) ∙ ap draft_rows (sym (settled_bare ds))
    where
      rows : (es : List Draft) → map without_step (draft_rows es) ≡ draft_rows (map bare es)
      rows [] = refl
      rows (e ∷ es) = ap (◌∷◌ (without_step e.row)) (rows es)

  pub rows_besides :
      (a b : ℕ) (f : Trees)
      → map without_step (finished s (drafts_by (number_at s) a f 0 0 0)) ≡ map without_step (finished s (drafts_by (number_at s) b f 0 0 0))
  rows_besides a b f =
      let ds = drafts_by (number_at s) a f 0 0 0 in
      let es = drafts_by (number_at s) b f 0 0 0 in
      finished_bare ds ∙ ap (finished s) (drafts_besides (number_at s) a b f 0 0 0) ∙ sym (finished_bare es)
