-- The opening of a form set, which two phrases read: the second starts within the GUID.
-- Assumes nothing.
use Prim.Native.Nat.{ℕ, ◌≤◌}
use mathlib.Core.Path.{◌≡◌, refl, sym, ap, ◌∙◌}
use mathlib.Core.Bool.{Bool, true, false}
use mathlib.Core.List.{List, [], ◌∷◌, ◌++◌, append_assoc, map}
use mathlib.Core.Option.{some}
use mathlib.Core.Logic.{inl, ◌≢◌}
use native.Mathlib.Omega.{arith}
use lib.Dec.{eqb}
use lib.ListN.{length, replicate, length-append}
use borrow.Author.Tests.{eqb-true}
use Rattle.lex.specs.declared.Token as lex
use Rattle.lexemes.specs.Classes as class
use Rattle.lexemes.specs.Classes.{open_brace, close_brace, comma}
use Rattle.lex.specs.Tokens.{token_at}
use Rattle.rows.specs.Table.{with_row}
use Rattle.rows.specs.Rows.{put}
use Rattle.ll1.specs.Trees.{Token, token, Trees, nil, leaf, node, leaves, Symbol, Alternative, alternative_of, Fits, fits_nil, fits_leaf, fits_node, Depth, depth}
use Rattle.ll1.specs.ParseTable.{nullable}
use Rattle.ll1.specs.Machine.{Due, due, due_all}
use Rattle.ll1.proofs.Lookups.{find_one, find_second, member_not}
use Rattle.grammar.specs.Grammar.{rules}
use Rattle.grammar.specs.Notation.{t, r, plain}
use Rattle.grammar.specs.Lookahead.{lookahead}
use Rattle.grammar.specs.Rules.{<source>, <guid>, <guid_end>, <eight>, <H8>, <H4>, <H2>, <str>}
use Rattle.grammar.specs.Derivation.{too_deep}
use Rattle.grammar.specs.Reading.{verdict_from}
use Rattle.grammar.specs.Source.{number_at}
use Rattle.grammar.specs.Parts.{child, place_at}
use Rattle.grammar.specs.Ranges.{range_of}
use Rattle.answers.specs.Rows.{Draft}
use Rattle.grammar.specs.Parts.{mark}
use Rattle.answers.specs.Drafts.{encoded}
use Rattle.phrases.specs.declared.Cursor.{Cursor}
use Rattle.phrases.specs.Stream.{stream, resume, Within}
use Rattle.elements.specs.Entries.{leaf_entries, node_entries, entries}
use Rattle.elements.specs.declared.noted.Noted.{Noted}
use Rattle.elements.specs.Marks.{faults, nothing_noted, noting}
use Rattle.elements.specs.Entries.{KEPT}
use Rattle.phrases.specs.Passed.{Passed}
use Rattle.elements.specs.Symbols.{symbols_of, phrase_symbols, title_and_help, FORM_SET_OPEN, FORM_SET_BRACED, FORM_SET_PLAIN}
use Rattle.phrases.proofs.Streams.{within_at}
use Rattle.elements.proofs.MarkLaws.{noting_append}
use Rattle.phrases.proofs.Resume.{resume_like, resume_off}
use Rattle.grammar.proofs.Equations.{verdict_take, verdict_deep, verdict_miss, verdict_ends, verdict_open}
use Rattle.elements.proofs.TreeLaws.{entries_node, faults_node}
use Rattle.fields.specs.Phrases.{kept, marked_value, form_set_draft}
use Rattle.walk.specs.declared.State.{State}
use Rattle.walk.specs.declared.Halt.{Halt}
use Rattle.walk.specs.Standing.{Standing, going, halted, cursor}
use Rattle.walk.specs.Meanings.{◌⧺◌, first_place, kept_of, Counted, Opening, rows_own}
use Rattle.walk.specs.Walked.{TakesSymbols, Takes, Walked, starting, set_open, OpensSet}
use Rattle.walk.proofs.TreeLaws.{leaves_beside, fits_beside, faults_beside, Faultless, faultless}
use Rattle.walk.proofs.Walks.{resume_enter, halts}
use Rattle.walk.proofs.PhraseSteps.{heads, kept_entries}
use Rattle.walk.proofs.Kept.{only_way, either_way, H8_keeps, H4_keeps, H2_keeps, str_keeps}
use Rattle.walk.proofs.StatementSteps.{Told}

-- ---- trees taken apart

entries_beside : (f g : Trees) → entries (f ⧺ g) ≡ entries f ++ entries g
unfolding entries ◌⧺◌
entries_beside nil g = refl
entries_beside (leaf (token k p) f) g = rw (entries_beside f g) (sym (append_assoc (leaf_entries k p) (entries f) (entries g)))
entries_beside (node A i nil f) g = ap (λ (l : List ℕ). 0 ∷ l) (entries_beside f g)
entries_beside (node A i (leaf t c) f) g = rw (entries_beside f g) (sym (append_assoc (node_entries A i (leaf t c) (entries (leaf t c))) (entries f) (entries g)))
entries_beside (node A i (node B j b c) f) g = rw (entries_beside f g) (sym (append_assoc (node_entries A i (node B j b c) (entries (node B j b c))) (entries f) (entries g)))

record Split (α β : List Symbol) (f : Trees) : Type 0 where
  pub front : Trees
  pub back : Trees
  pub is : f ≡ front ⧺ back
  pub fits_front : Fits rules α front
  pub fits_back : Fits rules β back

split : (α β : List Symbol) {f : Trees} → Fits rules (α ++ β) f → Split α β f
unfolding ◌⧺◌
split [] β {f} h = record { front = nil; back = f; is = refl; fits_front = fits_nil; fits_back = h }
split (x ∷ α) β (fits_leaf {k = k} {p = p} h) =
    let w = split α β h in
    record { front = leaf (token k p) w.front; back = w.back; is = ap (leaf (token k p)) w.is; fits_front = fits_leaf w.fits_front; fits_back = w.fits_back }
split (x ∷ α) β (fits_node {A = A} {i = i} {c = c} e h₁ h₂) =
    let w = split α β h₂ in
    record { front = node A i c w.front; back = w.back; is = ap (node A i c) w.is; fits_front = fits_node e h₁ w.fits_front; fits_back = w.fits_back }

-- ---- a rule whose parts a phrase reads

due_append : (d : Depth) (α β : List Symbol) (σ : List Due) → due_all d (α ++ β) ++ σ ≡ due_all d α ++ (due_all d β ++ σ)
due_append d [] β σ = refl
due_append d (x ∷ α) β σ = ap (λ (l : List Due). due d x ∷ l) (due_append d α β σ)

-- a phrase that reads alternative i of rule A and then β reads a tree of rule A and then β
passed_node :
    {s : List ℕ} {A i n : ℕ} {was : Noted} {y : Symbol} {α β : List Symbol} {k : lex.Token} {l l' : List ℕ} {c : Cursor}
    → alternative_of rules A i ≡ some (plain (y ∷ α)) → nullable rules A ≡ false → Told A i k.class → Faultless A i
    → ((i : ℕ) (c : Trees) (es : List ℕ) → node_entries A i c es ≡ es) → Passed s ((y ∷ α) ++ β) n k was l c l' → Passed s (r A ∷ β) n k was l c l'
passed_node {s} {A} {i} {n} {was} {y} {α} {β} {k} {l} {l'} {c} e full told free plainly p =
    record {
      verdict = λ σ d o. resume_enter s d A (due_all d β ++ σ) n k i (plain (y ∷ α)) full e told ∙ (rw (← due_append d (y ∷ α) β σ) (p.verdict σ d o));
      got = λ q.
          let x = p.got q in
          let w = split (y ∷ α) β x.fits in
          let u = w.front in
          let v = w.back in
          let keeps : entries (node A i u v) ≡ entries x.trees = entries_node A i v w.fits_front ∙ (ap (λ (l : List ℕ). l ++ entries v) (plainly i u (entries u)) ∙ (sym (entries_beside u v) ∙ ap entries (sym w.is))) in
          let same : faults s (node A i u v) ≡ faults s x.trees =
          faults_node s A i u v (free.none s u) ∙ (sym (faults_beside s u v) ∙ ap (faults s) (sym w.is)) in
          let all : leaves u ++ leaves v ≡ leaves x.trees = sym (leaves_beside u v) ∙ ap leaves (sym w.is) in
          record {
            before = x.before;
            trees = node A i u v;
            fits = fits_node e w.fits_front w.fits_back;
            reads = rw all x.reads;
            kept = x.kept ∙ rw keeps;
            noted_are = x.noted_are ∙ rw same;
            few = rw keeps x.few;
          };
      within = p.within;
    }

-- ---- a GUID from its inner brace, if there is one, on

module _ {s : List ℕ} {n : ℕ} {was : Noted} {k : lex.Token} {l l' : List ℕ} {c : Cursor} where
  pub braced_passed :
      k.class ≡ open_brace → Passed s (symbols_of FORM_SET_BRACED) n k was l c l' → Passed s (r <guid_end> ∷ title_and_help) n k was l c l'
  unfolding rules lookahead range_of symbols_of phrase_symbols node_entries
  braced_passed e p =
      passed_node {i = 0} {y = t open_brace} {α = r <eight> ∷ t close_brace ∷ t close_brace ∷ []}
      refl refl (inl (rw e)) (faultless refl refl refl) (λ i c es. refl) p

  pub plain_passed :
      k.class ≢ open_brace → Passed s (symbols_of FORM_SET_PLAIN) n k was l c l' → Passed s (r <guid_end> ∷ title_and_help) n k was l c l'
  unfolding rules lookahead range_of symbols_of phrase_symbols node_entries
  plain_passed e p =
      let told = find_second (open_brace ∷ []) (class.HEX ∷ []) k.class (member_not k.class open_brace [] e refl) in
      passed_node {i = 1} {y = r <eight>} {α = t close_brace ∷ []} refl refl told (faultless refl refl refl) (λ i c es. refl) p

-- ---- the row of a form set

-- the marks of eight H2
abbrev eight_marks : Trees → List ℕ
eight_marks c = mark (place_at 0 (child 0 c)) ∷ mark (place_at 0 (child 2 c)) ∷ mark (place_at 0 (child 4 c)) ∷ mark (place_at 0 (child 6 c)) ∷ mark (place_at 0 (child 8 c)) ∷ mark (place_at 0 (child 10 c)) ∷ mark (place_at 0 (child 12 c)) ∷ mark (place_at 0 (child 14 c)) ∷ []

eight_keeps :
    (i : ℕ) (a : Alternative) (c : Trees)
    → alternative_of rules <eight> i ≡ some a → Fits rules a.symbols c → (g : Trees) → entries (node <eight> i c g) ≡ eight_marks c ++ entries g
unfolding rules entries node_entries
eight_keeps = only_way (λ i c. (g : Trees) → entries (node <eight> i c g) ≡ eight_marks c ++ entries g) refl there
  where
    there :
        (c : Trees)
        → Fits rules (r <H2> ∷ t comma ∷ r <H2> ∷ t comma ∷ r <H2> ∷ t comma ∷ r <H2> ∷ t comma ∷ r <H2> ∷ t comma ∷ r <H2> ∷ t comma ∷ r <H2> ∷ t comma ∷ r <H2> ∷ []) c
        → (g : Trees) → entries (node <eight> 0 c g) ≡ eight_marks c ++ entries g
    there c (fits_node {i = i₀} {c = c₀} e₀ h₀ (fits_leaf {p = p₁} (fits_node {i = i₂} {c = c₂} e₂ h₂ (fits_leaf {p = p₃} (fits_node {i = i₄} {c = c₄} e₄ h₄ (fits_leaf {p = p₅} (fits_node {i = i₆} {c = c₆} e₆ h₆ (fits_leaf {p = p₇} (fits_node {i = i₈} {c = c₈} e₈ h₈ (fits_leaf {p = p₉} (fits_node {i = j₀} {c = d₀} f₀ k₀ (fits_leaf {p = q₁} (fits_node {i = j₂} {c = d₂} f₂ k₂ (fits_leaf {p = q₃} (fits_node {i = j₄} {c = d₄} f₄ k₄ fits_nil))))))))))))))) g =
        let r₇ = node <H2> j₄ d₄ nil in
        let r₆ = leaf (token comma q₃) r₇ in
        let r₅ = leaf (token comma q₁) (node <H2> j₂ d₂ r₆) in
        let r₄ = leaf (token comma p₉) (node <H2> j₀ d₀ r₅) in
        let r₃ = leaf (token comma p₇) (node <H2> i₈ c₈ r₄) in
        let r₂ = leaf (token comma p₅) (node <H2> i₆ c₆ r₃) in
        let r₁ = leaf (token comma p₃) (node <H2> i₄ c₄ r₂) in
        let r₀ = leaf (token comma p₁) (node <H2> i₂ c₂ r₁) in
        rw (H2_keeps i₀ _ c₀ e₀ h₀ r₀, H2_keeps i₂ _ c₂ e₂ h₂ r₁, H2_keeps i₄ _ c₄ e₄ h₄ r₂, H2_keeps i₆ _ c₆ e₆ h₆ r₃, H2_keeps i₈ _ c₈ e₈ h₈ r₄, H2_keeps j₀ _ d₀ f₀ k₀ r₅, H2_keeps j₂ _ d₂ f₂ k₂ r₆, H2_keeps j₄ _ d₄ f₄ k₄ nil)

-- the trees of the eight H2, of a GUID's end
abbrev bytes_in : ℕ → Trees → Trees
bytes_in i u = elim (eqb i 0) [ true ↦ child 1 u | false ↦ child 0 u ]

end_keeps :
    (i : ℕ) (a : Alternative) (c : Trees)
    → alternative_of rules <guid_end> i ≡ some a → Fits rules a.symbols c → (g : Trees)
    → entries (node <guid_end> i c g) ≡ eight_marks (bytes_in i c) ++ entries g
unfolding rules entries node_entries
end_keeps = either_way (λ i c. (g : Trees) → entries (node <guid_end> i c g) ≡ eight_marks (bytes_in i c) ++ entries g) refl braced unbraced
  where
    braced :
        (c : Trees) → Fits rules (t open_brace ∷ r <eight> ∷ t close_brace ∷ t close_brace ∷ []) c → (g : Trees)
        → entries (node <guid_end> 0 c g) ≡ eight_marks (child 1 c) ++ entries g
    braced c (fits_leaf (fits_node {i = i} {c = d} e h (fits_leaf {p = p} (fits_leaf {p = q} fits_nil)))) g = rw (eight_keeps i _ d e h (leaf (token close_brace p) (leaf (token close_brace q) nil)))

    unbraced :
        (c : Trees) → Fits rules (r <eight> ∷ t close_brace ∷ []) c → (g : Trees)
        → entries (node <guid_end> 1 c g) ≡ eight_marks (child 0 c) ++ entries g
    unbraced c (fits_node {i = i} {c = d} e h (fits_leaf {p = p} fits_nil)) g = rw (eight_keeps i _ d e h (leaf (token close_brace p) nil))

-- the symbols of a form set's first phrase, and those of a GUID before its end
abbrev set_words : List Symbol
set_words = t class.«formset» ∷ t class.«guid» ∷ t class.«=» ∷ []

abbrev guid_open : List Symbol
guid_open = t open_brace ∷ r <H8> ∷ t comma ∷ r <H4> ∷ t comma ∷ r <H4> ∷ t comma ∷ []

-- the trees of a form set's opening, from those of its two phrases
abbrev assembled : Trees → Trees → Trees → Trees → Trees
assembled a b e v = a ⧺ node <guid> 0 (b ⧺ e) v

set_row :
    (s : List ℕ) (at n : ℕ) {a b e v : Trees} (g : Trees)
    → Fits rules set_words a → Fits rules guid_open b → Fits rules (r <guid_end> ∷ []) e → Fits rules title_and_help v
    → form_set_draft (number_at s) (place_at 0 a) (kept_of (a ⧺ b)) (kept_of (e ⧺ v)) ∷ [] ≡ rows_own s 0 at n <source> 0 (assembled a b e v ⧺ g)
unfolding rules entries node_entries kept_of marked_value rows_own ◌⧺◌
set_row s at n g
    (fits_leaf {p = p₀} (fits_leaf {p = p₁} (fits_leaf {p = p₂} fits_nil)))
    (fits_leaf {p = q₀} (fits_node {i = i₁} {c = c₁} e₁ h₁ (fits_leaf {p = q₂} (fits_node {i = i₃} {c = c₃} e₃ h₃ (fits_leaf {p = q₄} (fits_node {i = i₅} {c = c₅} e₅ h₅ (fits_leaf {p = q₆} fits_nil)))))))
    (fits_node {i = i} {c = u} f h fits_nil)
    (fits_leaf {p = m₀} (fits_leaf {p = m₁} (fits_leaf {p = m₂} (fits_node {i = i₇} {c = c₇} e₇ h₇ (fits_leaf {p = m₄} (fits_leaf {p = m₅} (fits_leaf {p = m₆} (fits_node {i = j₁} {c = d₁} f₁ k₁ (fits_leaf {p = m₈} fits_nil))))))))) =
    let last = leaf (token comma q₆) nil in
    let third = leaf (token comma q₄) (node <H4> i₅ c₅ last) in
    let second = leaf (token comma q₂) (node <H4> i₃ c₃ third) in
    let end = leaf (token comma m₈) nil in
    let help = leaf (token comma m₄) (leaf (token class.«help» m₅) (leaf (token class.«=» m₆) (node <str> j₁ d₁ end))) in
    let title = leaf (token comma m₀) (leaf (token class.«title» m₁) (leaf (token class.«=» m₂) (node <str> i₇ c₇ help))) in
    rw (H8_keeps i₁ _ c₁ e₁ h₁ second, H4_keeps i₃ _ c₃ e₃ h₃ third, H4_keeps i₅ _ c₅ e₅ h₅ last, end_keeps i _ u f h title, str_keeps i₇ _ c₇ e₇ h₇ help, str_keeps j₁ _ d₁ f₁ k₁ end)

-- ---- the verdict

verdict_under :
    (d : Depth) (k : ℕ) (σ τ : List Due)
    → ((ts : List Token) → verdict_from σ ts ≡ verdict_from τ ts) → (ts : List Token)
    → verdict_from (due d (t k) ∷ σ) ts ≡ verdict_from (due d (t k) ∷ τ) ts
verdict_under d k σ τ same [] = verdict_ends d σ k ∙ sym (verdict_ends d τ k)
verdict_under d k σ τ same (token j p ∷ ts) = by (eqb k j) (too_deep d) refl refl
  where
    by : (b c : Bool) → eqb k j ≡ b → too_deep d ≡ c → verdict_from (due d (t k) ∷ σ) (token j p ∷ ts) ≡ verdict_from (due d (t k) ∷ τ) (token j p ∷ ts)
    by false c e f = verdict_miss d σ k j p ts e ∙ sym (verdict_miss d τ k j p ts e)
    by true true e f = rw (← eqb-true k j e) (verdict_deep d σ k p ts f ∙ sym (verdict_deep d τ k p ts f))
    by true false e f = rw (← eqb-true k j e) (verdict_take d σ k p ts f ∙ (same ts ∙ sym (verdict_take d τ k p ts f)))

-- what is due after some words may be replaced
words_under :
    (d : Depth) (ks : List ℕ) (σ τ : List Due)
    → ((ts : List Token) → verdict_from σ ts ≡ verdict_from τ ts) → (ts : List Token)
    → verdict_from (due_all d (map t ks) ++ σ) ts ≡ verdict_from (due_all d (map t ks) ++ τ) ts
words_under d [] σ τ same ts = same ts
words_under d (k ∷ ks) σ τ same ts = verdict_under d k (due_all d (map t ks) ++ σ) (due_all d (map t ks) ++ τ) (words_under d ks σ τ same) ts

guid_opens :
    (d : Depth) (σ : List Due) (ts : List Token)
    → verdict_from (due d (r <guid>) ∷ σ) ts ≡ verdict_from (due_all d guid_open ++ due d (r <guid_end>) ∷ σ) ts
unfolding rules lookahead
guid_opens d σ ts = verdict_open d <guid> σ (plain (guid_open ++ r <guid_end> ∷ [])) ts refl refl (λ k. find_one (open_brace ∷ []) k)

-- ---- the trees

module _ (a b e v : Trees) where
  assembled_leaves : leaves (assembled a b e v) ≡ leaves (a ⧺ b) ++ leaves (e ⧺ v)
  assembled_leaves = rw (leaves_beside a (node <guid> 0 (b ⧺ e) v), leaves_beside b e, leaves_beside a b, leaves_beside e v) (simp append_assoc)

  assembled_faults : (s : List ℕ) → faults s (assembled a b e v) ≡ faults s (a ⧺ b) ++ faults s (e ⧺ v)
  unfolding range_of
  assembled_faults s =
      rw (
        faults_beside s a (node <guid> 0 (b ⧺ e) v),
        faults_node s <guid> 0 (b ⧺ e) v ((faultless refl refl refl).none s (b ⧺ e)),
        faults_beside s b e,
        faults_beside s a b,
        faults_beside s e v,
      )
      (simp append_assoc)

assembled_fits :
    {a b e v : Trees} → Fits rules set_words a → Fits rules guid_open b → Fits rules (r <guid_end> ∷ []) e → Fits rules title_and_help v
    → Fits rules (set_words ++ r <guid> ∷ title_and_help) (assembled a b e v)
unfolding rules
assembled_fits f g h i = fits_beside f (fits_node {i = 0} {a = plain (guid_open ++ r <guid_end> ∷ [])} refl (fits_beside g h) i)

first_place_lem : {j : ℕ} {β : List Symbol} {a : Trees} (b : Trees) → Fits rules (t j ∷ β) a → first_place (leaves (a ⧺ b)) ≡ place_at 0 a
unfolding ◌⧺◌
first_place_lem b (fits_leaf h) = refl

-- ---- the opening as it is read

abbrev stopped : Cursor → Standing
stopped c = record { no = c.no; token = c.token; rows = 0; rules = 0; noted = c.noted }

abbrev begun : Cursor → Standing
begun c = record { no = 0; token = c.token; rows = 1; rules = 0; noted = c.noted }

module _ {s : List ℕ} {k : lex.Token} {c e : Cursor} {high low : List ℕ}
    (p : Passed s (symbols_of FORM_SET_OPEN) 0 k nothing_noted (replicate KEPT 0) c high)
    (q : Passed s (r <guid_end> ∷ title_and_help) c.no c.token c.noted (replicate KEPT 0) e low) where
  set_verdict : (d : Depth) → too_deep d ≡ false → (σ : List Due) → resume s (due_all d set_open ++ σ) 0 k ≡ resume s σ e.no e.token
  unfolding symbols_of phrase_symbols
  set_verdict d o σ =
      let τ = due_all d title_and_help ++ σ in
      resume_like s (due_all d set_open ++ σ) (due_all d (set_words ++ guid_open) ++ due d (r <guid_end>) ∷ τ) 0 k (words_under d (class.«formset» ∷ class.«guid» ∷ class.«=» ∷ []) (due d (r <guid>) ∷ τ) (due_all d guid_open ++ due d (r <guid_end>) ∷ τ) (guid_opens d τ))
      ∙ (p.verdict (due d (r <guid_end>) ∷ τ) d o ∙ q.verdict σ d o)

  pub set_off : {x : List ℕ} → e.no ≢ 0 → Walked s (depth 0 0) set_open (Counted (Opening s <source> 0 0)) (starting k) (stopped e) x x
  set_off h = record { verdict = set_verdict (depth 0 0) refl; within = λ w. q.within (p.within w); got = λ z. absurd (h z) }

  abbrev row : Draft
  row = form_set_draft (number_at s) k.start (kept high) (kept low)

  -- the trees of the two phrases, f and g
  module _ {f g : Trees} (fits₁ : Fits rules (set_words ++ guid_open) f) (fits₂ : Fits rules (r <guid_end> ∷ title_and_help) g) (kept₁ : kept high ≡ kept_of f) (kept₂ : kept low ≡ kept_of g) (here : leaves f ++ (leaves g ++ stream s e.token) ≡ stream s k) where
    record Assembled : Type 0 where
      pub trees : Trees
      pub fits : Fits rules set_open trees
      pub all : leaves trees ≡ leaves f ++ leaves g
      pub faults_are : faults s trees ≡ faults s f ++ faults s g
      pub rows : (h : Trees) → row ∷ [] ≡ rows_own s 0 0 0 <source> 0 (trees ⧺ h)
      pub some : 1 ≤ length (leaves f)

    assemble : Assembled
    assemble =
        let ab = split set_words guid_open fits₁ in
        let ev = split (r <guid_end> ∷ []) title_and_help fits₂ in
        let a = ab.front in
        let b = ab.back in
        let u = ev.front in
        let v = ev.back in
        let head = heads s k (leaves g ++ stream s e.token) refl fits₁ here in
        let place : place_at 0 a ≡ k.start = sym (first_place_lem b ab.fits_front) ∙ (ap (λ (x : Trees). first_place (leaves x)) (sym ab.is) ∙ head.place) in
        let first : kept high ≡ kept_of (a ⧺ b) = kept₁ ∙ ap kept_of ab.is in
        let second : kept low ≡ kept_of (u ⧺ v) = kept₂ ∙ ap kept_of ev.is in
        let same : row ∷ [] ≡ form_set_draft (number_at s) (place_at 0 a) (kept_of (a ⧺ b)) (kept_of (u ⧺ v)) ∷ [] =
        ap (λ (x : ℕ). form_set_draft (number_at s) x (kept high) (kept low) ∷ []) (sym place)
        ∙ (ap (λ (x : ℕ → ℕ). form_set_draft (number_at s) (place_at 0 a) x (kept low) ∷ []) first
        ∙ ap (λ (x : ℕ → ℕ). form_set_draft (number_at s) (place_at 0 a) (kept_of (a ⧺ b)) x ∷ []) second) in
        record {
          trees = assembled a b u v;
          fits = assembled_fits ab.fits_front ab.fits_back ev.fits_front ev.fits_back;
          all = assembled_leaves a b u v ∙ (ap (λ (x : Trees). leaves x ++ leaves (u ⧺ v)) (sym ab.is) ∙ ap (λ (x : Trees). leaves f ++ leaves x) (sym ev.is));
          faults_are =
              assembled_faults a b u v s
              ∙ (ap (λ (x : Trees). faults s x ++ faults s (u ⧺ v)) (sym ab.is) ∙ ap (λ (x : Trees). faults s f ++ faults s x) (sym ev.is));
          rows = λ h. same ∙ set_row s 0 0 h ab.fits_front ab.fits_back ev.fits_front ev.fits_back;
          some = head.some;
        }

  pub set_on :
      {x x' : List ℕ} → e.no ≡ 0 → x' ≡ with_row x 0 (encoded row)
      → Walked s (depth 0 0) set_open (Counted (Opening s <source> 0 0)) (starting k) (begun e) x x'
  unfolding put kept_of symbols_of phrase_symbols
  set_on {x} {x'} z f =
      record {
        verdict = λ σ. set_verdict (depth 0 0) refl σ ∙ rw z;
        within = λ w. q.within (p.within w);
        got = λ z'.
            let y₂ = q.got z in
            let y₁ = p.got y₂.before in
            let here : leaves y₁.trees ++ (leaves y₂.trees ++ stream s e.token) ≡ stream s k = rw y₂.reads y₁.reads in
            let w = assemble y₁.fits y₂.fits (kept_entries (entries y₁.trees) y₁.kept y₁.few) (kept_entries (entries y₂.trees) y₂.kept y₂.few) here in
            record {
              before = refl;
              trees = w.trees;
              drafts = row ∷ [];
              count = 0;
              fits = w.fits;
              reads = rw (w.all, append_assoc (leaves y₁.trees) (leaves y₂.trees) (stream s e.token)) here;
              means = record { means = record { rows = w.rows; some = omega arith; rules = refl }; few = rw (w.all, length-append (leaves y₁.trees) (leaves y₂.trees)) (let m = w.some in omega arith); fewer = omega arith };
              table = f;
              rows = refl;
              counted = refl;
              noted =
                  y₂.noted_are
                  ∙ (ap (λ (n : Noted). noting n (faults s y₂.trees)) y₁.noted_are
                  ∙ (sym (noting_append nothing_noted (faults s y₁.trees) (faults s y₂.trees)) ∙ ap (noting nothing_noted) (sym w.faults_are)));
            };
      }

-- ---- from the source's first token on

pub first_within : (s : List ℕ) {k : lex.Token} → k ≡ token_at s 0 → Within s k
first_within s e = rw e (within_at s 0)

module _ {s : List ℕ} {k : lex.Token} {was : Noted} {c e : Cursor} {high low : List ℕ}
    (f : k ≡ token_at s 0) (nothing : was ≡ nothing_noted)
    (p : Passed s (symbols_of FORM_SET_OPEN) 0 k was (replicate KEPT 0) c high)
    (q : Passed s (r <guid_end> ∷ title_and_help) c.no c.token c.noted (replicate KEPT 0) e low) where
  pub set_opens_off : {x : List ℕ} → e.no ≢ 0 → OpensSet s (stopped e) x x
  set_opens_off {x} h = record { walked = rw f at (set_off (rw nothing at p) q {x = x} h) }

  pub set_opens_on :
      {cells x x' : List ℕ}
      → e.no ≡ 0 → cells ≡ encoded (form_set_draft (number_at s) k.start (kept high) (kept low)) → x' ≡ with_row x 0 cells → OpensSet s (begun e) x x'
  set_opens_on {x = x} z a b = record { walked = rw f at (set_on (rw nothing at p) q z (b ∙ ap (with_row x 0) a)) }

-- ---- the same, of the states of a walk

module _ {s : List ℕ} {st r' : Standing} {l l' : List ℕ} where
  pub braced_takes : st.token.class ≡ open_brace → Takes s FORM_SET_BRACED st r' l l' → TakesSymbols s (r <guid_end> ∷ title_and_help) st r' l l'
  braced_takes e x = record { passed = braced_passed e x.passed; same = x.same }

  pub plain_takes : st.token.class ≢ open_brace → Takes s FORM_SET_PLAIN st r' l l' → TakesSymbols s (r <guid_end> ∷ title_and_help) st r' l l'
  plain_takes e x = record { passed = plain_passed e x.passed; same = x.same }

-- a refusal is handed on
pub takes_off : {s : List ℕ} (α : List Symbol) {st : Standing} {l : List ℕ} → st.no ≢ 0 → TakesSymbols s α st st l l
takes_off {s} α {st} h =
    record {
      passed = record { verdict = λ σ d o. resume_off s (due_all d α ++ σ) σ st.no st.token h; got = λ q. absurd (h q); within = λ w. w };
      same = λ q. absurd (h q);
    }

module _ {s : List ℕ} {st c : Standing} {high low : List ℕ} (z : st.no ≡ 0) (f : st.token ≡ token_at s 0) (nothing : st.noted ≡ nothing_noted)
    (p : Takes s FORM_SET_OPEN st c (replicate KEPT 0) high) where
  -- refused in one of the two phrases
  pub opens_off : (e : Halt) {x : List ℕ} → TakesSymbols s (r <guid_end> ∷ title_and_help) c (halted e) (replicate KEPT 0) low → OpensSet s (halted e) x x
  opens_off e {x} q = set_opens_off {e = cursor (halted e)} f nothing (rw z at p.passed) q.passed {x = x} (halts e)

  -- with the row of the form set
  pub opens_on :
      (o : State) {cells x x' : List ℕ}
      → st.rules ≡ 0 → c.no ≡ 0 → TakesSymbols s (r <guid_end> ∷ title_and_help) c (going o) (replicate KEPT 0) low
      → cells ≡ encoded (form_set_draft (number_at s) st.token.start (kept high) (kept low)) → x' ≡ with_row x 0 cells
      → OpensSet s (going (record { token = o.token; rows = 1; rules = o.rules; noted = o.noted })) x x'
  opens_on o m y q a b = rw ((q.same refl).1, (p.same y).1, m) (set_opens_on {e = cursor (going o)} f nothing (rw z at p.passed) q.passed refl a b)
