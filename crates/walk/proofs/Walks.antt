-- How what is read in turn is put together.
-- Assumes nothing.
use Prim.Native.Nat.{ℕ, ◌+◌, ◌<◌}
use mathlib.Core.Path.{◌≡◌, refl, sym, ap, ◌∙◌, subst}
use mathlib.Core.Bool.{true, false, cond}
use mathlib.Core.List.{List, [], ◌∷◌, ◌++◌, append_assoc, append-nil, map, map-append}
use mathlib.Core.Option.{none, some}
use mathlib.Core.Logic.{◌⊎◌, ◌≢◌}
use native.Mathlib.Omega.{arith}
use native.Mathlib.Nat.{add-zero, add_assoc}
use native.Mathlib.Decide.{ℕ_discrete}
use lib.Dec.{eqb}
use lib.ListN.{length, length-append, length-map}
use borrow.Author.Tests.{ne_eqb}
use Rattle.lex.specs.declared.Token as lex
use Rattle.lexemes.specs.Classes.{BAD, END}
use Rattle.lex.specs.Tokens.{token_at}
use Rattle.rows.specs.Rows.{put}
use Rattle.rows.proofs.RunLaws.{put_append}
use Rattle.ll1.specs.Trees.{token, Trees, nil, leaf, node, leaves, Symbol, Alternative, alternative_of, Fits, fits_nil, fits_leaf, fits_node, Depth, deeper}
use Rattle.ll1.specs.Verdict.{Verdict, refused}
use Rattle.ll1.specs.ParseTable.{predict, nullable}
use Rattle.ll1.specs.Machine.{Due, due, due_all, opened}
use Rattle.grammar.specs.Grammar.{rules}
use Rattle.grammar.specs.Notation.{t, r}
use Rattle.grammar.specs.Lookahead.{lookahead}
use Rattle.grammar.specs.Derivation.{too_deep}
use Rattle.grammar.specs.Reading.{verdict_from}
use Rattle.answers.specs.Rows.{Draft}
use Rattle.grammar.specs.Ranges.{gathered}
use Rattle.answers.specs.Drafts.{encoded}
use Rattle.phrases.specs.Stream.{stream, refusal, resume}
use Rattle.phrases.proofs.Streams.{stream_on, stream_end, stream_first, rest, within_at}
use Rattle.elements.specs.declared.noted.Noted.{Noted}
use Rattle.elements.specs.Marks.{faults_here, faults, noting}
use Rattle.elements.proofs.MarkLaws.{noting_append, noting_none}
use Rattle.phrases.proofs.Resume.{resume_on, resume_no, resume_off}
use Rattle.grammar.proofs.Equations.{verdict_take, verdict_deep, verdict_in, verdict_enter, verdict_skip, verdict_skip_end}
use Rattle.elements.proofs.TreeLaws.{faults_of}
use Rattle.refusals.proofs.Bounds.{number_bounds}
use Rattle.walk.specs.declared.Halt.{Halt}
use Rattle.walk.specs.declared.State.{State}
use Rattle.walk.specs.Standing.{Standing, going, halted, refused_deep}
use Rattle.walk.specs.Meanings.{◌⧺◌, Meaning, Counted, Silent}
use Rattle.walk.specs.Walked.{Tree, Walked, Reads, passed, deep}
use Rattle.walk.proofs.TreeLaws.{leaves_beside, fits_beside, faults_beside, Faultless}

due_append : (d : Depth) (α β : List Symbol) → due_all d (α ++ β) ≡ due_all d α ++ due_all d β
due_append d [] β = refl
due_append d (x ∷ α) β = ap (λ (l : List Due). due d x ∷ l) (due_append d α β)

-- ---- one after another

-- what trees mean that stand beside one another
abbrev pub Joins : List Symbol → List Symbol → Meaning → Meaning → Meaning → ℕ → ℕ → Type 0
Joins α β M N K at n = (f g : Trees) (ds es : List Draft) (k l : ℕ) → Fits rules α f → Fits rules β g → M at n f ds k → N (at + length ds) (n + k) g es l → K at n (f ⧺ g) (ds ++ es) (k + l)

put_more :
    (t t₁ : List ℕ) (n m : ℕ) (ds es : List Draft)
    → t₁ ≡ put t n (map encoded ds) → m ≡ n + length ds → put t₁ m (map encoded es) ≡ put t n (map encoded (ds ++ es))
put_more t t₁ n m ds es e q =
    let more = put_append (map encoded ds) (map encoded es) t n in
    rw (map-append encoded ds es, more, ← e, length-map ds encoded, ← q)

module _ {s : List ℕ} {α β : List Symbol} {M N K : Meaning} {st r r' : Standing} {t t₁ t₂ : List ℕ} (join : Joins α β M N K st.rows st.rules) where
  tree_then : Tree s α M st r t t₁ → Tree s β N r r' t₁ t₂ → Tree s (α ++ β) K st r' t t₂
  tree_then x y =
      let f = x.trees in
      let g = y.trees in
      let means = y.means in
      record {
        before = x.before;
        trees = f ⧺ g;
        drafts = x.drafts ++ y.drafts;
        count = x.count + y.count;
        fits = fits_beside x.fits y.fits;
        reads = rw (leaves_beside f g, append_assoc (leaves f) (leaves g) (stream s r'.token), y.reads) x.reads;
        means = join f g x.drafts y.drafts x.count y.count x.fits y.fits x.means (rw (x.rows, x.counted) at means);
        table = y.table ∙ put_more t t₁ st.rows r.rows x.drafts y.drafts x.table x.rows;
        rows = y.rows ∙ rw (length-append x.drafts y.drafts, ← add_assoc, ← x.rows);
        counted = y.counted ∙ rw (← add_assoc, ← x.counted);
        noted = y.noted ∙ rw (faults_beside s f g, noting_append, ← x.noted);
      }

  pub walked_then : {d : Depth} → Walked s d α M st r t t₁ → Walked s d β N r r' t₁ t₂ → Walked s d (α ++ β) K st r' t t₂
  walked_then {d} w v =
      record {
        verdict = λ σ. rw (due_append d α β, append_assoc) (w.verdict (due_all d β ++ σ) ∙ v.verdict σ);
        within = λ h. v.within (w.within h);
        got = λ q. let y = v.got q in tree_then (w.got y.before) y;
      }

-- each row has a token of its own, and each rule a row, if it is so of the parts
pub counted_joins : {α β : List Symbol} {M N K : Meaning} {at n : ℕ} → Joins α β M N K at n → Joins α β (Counted M) (Counted N) (Counted K) at n
counted_joins join f g ds es k l h₁ h₂ x y =
    record {
      means = join f g ds es k l h₁ h₂ x.means y.means;
      few = rw (length-append ds es, leaves_beside f g, length-append (leaves f) (leaves g)) (let a = x.few in let b = y.few in omega arith);
      fewer = rw (length-append ds es) (let a = x.fewer in let b = y.fewer in omega arith);
    }

-- the same trees in another meaning
pub walked_as :
    {s : List ℕ} {d : Depth} {α : List Symbol} {M K : Meaning} {st r : Standing} {t t' : List ℕ}
    → ((f : Trees) (ds : List Draft) (k : ℕ) → Fits rules α f → M st.rows st.rules f ds k → K st.rows st.rules f ds k)
    → Walked s d α M st r t t' → Walked s d α K st r t t'
walked_as turn w =
    record {
      verdict = w.verdict;
      within = w.within;
      got = λ q.
          let x = w.got q in
          record {
            before = x.before;
            trees = x.trees;
            drafts = x.drafts;
            count = x.count;
            fits = x.fits;
            reads = x.reads;
            means = turn x.trees x.drafts x.count x.fits x.means;
            table = x.table;
            rows = x.rows;
            counted = x.counted;
            noted = x.noted;
          };
    }

pub counted_as :
    {M K : Meaning} {at n : ℕ} {f : Trees} {ds : List Draft} {k : ℕ}
    → (M at n f ds k → K at n f ds k) → Counted M at n f ds k → Counted K at n f ds k
counted_as turn x = record { means = turn x.means; few = x.few; fewer = x.fewer }

-- another standing at the same token with the same number, and, where nothing is refused, the same one
pub walked_like :
    {s : List ℕ} {d : Depth} {α : List Symbol} {M : Meaning} {st r r' : Standing} {t t' : List ℕ}
    → r'.no ≡ r.no → r'.token ≡ r.token → (r.no ≡ 0 → r' ≡ r) → Walked s d α M st r t t' → Walked s d α M st r' t t'
walked_like {s} {α = α} {M = M} {st = st} {t = t} {t' = t'} e f same w =
    record {
      verdict = λ σ. rw (e, f) (w.verdict σ);
      within = λ h. rw f (w.within h);
      got = λ q. let z = sym e ∙ q in subst (λ (x : Standing). Tree s α M st x t t') (sym (same z)) (w.got z);
    }

-- ---- nothing is read

-- a refusal has a number
pub halts : (e : Halt) → (halted e).no ≢ 0
halts e q = let n = (number_bounds e.reason).0 in absurd (omega arith)

-- a refusal is handed on
pub walked_off : {s : List ℕ} {d : Depth} (α : List Symbol) (M : Meaning) {st : Standing} {t : List ℕ} → st.no ≢ 0 → Walked s d α M st st t t
walked_off {s} {d} α M {st} h = record { verdict = λ σ. resume_off s (due_all d α ++ σ) σ st.no st.token h; within = λ w. w; got = λ q. absurd (h q) }

pub reads_off : {s : List ℕ} (α : List Symbol) (M : Meaning) {st : Standing} {t : List ℕ} → st.no ≢ 0 → Reads s α M st st t t
reads_off α M h = record { walked = λ d o. walked_off α M h }

pub walked_nil : (s : List ℕ) (d : Depth) {st : Standing} {t : List ℕ} → Walked s d [] (Counted Silent) st st t t
unfolding put faults gathered
walked_nil s d {st} {t} =
    record {
      verdict = λ σ. refl;
      within = λ w. w;
      got = λ q.
          record {
            before = q;
            trees = nil;
            drafts = [];
            count = 0;
            fits = fits_nil;
            reads = refl;
            means = record { means = record { no_rows = refl; no_rules = refl }; few = omega arith; fewer = omega arith };
            table = refl;
            rows = sym (add-zero st.rows);
            counted = sym (add-zero st.rules);
            noted = sym (noting_none st.noted);
          };
    }

-- ---- a token

module _ (s : List ℕ) (d : Depth) (k : ℕ) (st : Standing) (here : st.no ≡ 0) (class : st.token.class ≡ k) (known : k < BAD) where
  pub resume_take :
      (σ : List Due) → too_deep d ≡ false → resume s (due d (t k) ∷ σ) st.no st.token ≡ resume s σ st.no (token_at s st.token.end)
  resume_take σ o =
      resume_on s (due d (t k) ∷ σ) st.no st.token here
      ∙ (rw (stream_on s st.token (omega arith), class) (verdict_take d σ k st.token.start (stream s (token_at s st.token.end)) o)
      ∙ sym (resume_on s σ st.no (token_at s st.token.end) here))

  pub token_walked :
      {M : Meaning} {x : List ℕ}
      → too_deep d ≡ false → M st.rows st.rules (leaf (token k st.token.start) nil) [] 0 → Walked s d (t k ∷ []) M st (passed s st) x x
  unfolding put faults gathered
  token_walked o m =
      let on = stream_on s st.token (omega arith) in
      record {
        verdict = λ σ. resume_take σ o;
        within = λ w. within_at s st.token.end;
        got = λ q.
            record {
              before = here;
              trees = leaf (token k st.token.start) nil;
              drafts = [];
              count = 0;
              fits = fits_leaf fits_nil;
              reads = rw (← class) (sym on);
              means = m;
              table = refl;
              rows = sym (add-zero st.rows);
              counted = sym (add-zero st.rules);
              noted = sym (noting_none st.noted);
            };
      }

  -- the token is there, and too deep
  resume_deep : (σ τ : List Due) → too_deep d ≡ true → resume s (due d (t k) ∷ σ) st.no st.token ≡ resume s τ 4 st.token
  unfolding refusal
  resume_deep σ τ o =
      let there : refusal 4 st.token ≡ refused 4 st.token.start = rw (ne_eqb st.token.class END (λ q. omega arith)) in
      resume_on s (due d (t k) ∷ σ) st.no st.token here
      ∙ (rw (stream_on s st.token (omega arith), class) (verdict_deep d σ k st.token.start (stream s (token_at s st.token.end)) o)
      ∙ (sym there ∙ sym (resume_no s τ 4 st.token (λ q. absurd (omega arith)))))

-- ---- a rule

module _ (s : List ℕ) (d : Depth) (A : ℕ) (σ : List Due) (n : ℕ) (k : lex.Token) where
  -- the token tells alternative i
  pub resume_in :
      (i : ℕ) (a : Alternative)
      → k.class ≢ END → predict lookahead A k.class ≡ some i → alternative_of rules A i ≡ some a
      → resume s (due d (r A) ∷ σ) n k ≡ resume s (opened d a ++ σ) n k
  unfolding resume
  resume_in i a q p e = ap (λ (v : Verdict). cond (eqb n 0) v (refusal n k)) (rw (stream_first s k q) (verdict_in d A σ i a k.class k.start (rest s k) p e))

  -- the token tells alternative i or none, and the rule may not be absent
  pub resume_enter :
      (i : ℕ) (a : Alternative)
      → nullable rules A ≡ false → alternative_of rules A i ≡ some a
      → (predict lookahead A k.class ≡ some i) ⊎ (predict lookahead A k.class ≡ none)
      → resume s (due d (r A) ∷ σ) n k ≡ resume s (opened d a ++ σ) n k
  unfolding resume
  resume_enter i a u e w = ap (λ (v : Verdict). cond (eqb n 0) v (refusal n k)) (by (ℕ_discrete k.class END))
    where
      by : Dec (k.class ≡ END) → verdict_from (due d (r A) ∷ σ) (stream s k) ≡ verdict_from (opened d a ++ σ) (stream s k)
      by (yes q) = rw (stream_end s k q) (verdict_enter d A σ i a [] u e tt)
      by (no q) = rw (stream_first s k q) (verdict_enter d A σ i a (token k.class k.start ∷ rest s k) u e w)

  -- the token tells none, and the rule may be absent
  pub resume_skip : nullable rules A ≡ true → predict lookahead A k.class ≡ none → resume s (due d (r A) ∷ σ) n k ≡ resume s σ n k
  unfolding resume
  resume_skip u w = ap (λ (v : Verdict). cond (eqb n 0) v (refusal n k)) (by (ℕ_discrete k.class END))
    where
      by : Dec (k.class ≡ END) → verdict_from (due d (r A) ∷ σ) (stream s k) ≡ verdict_from σ (stream s k)
      by (yes q) = rw (stream_end s k q) (verdict_skip_end d A σ u)
      by (no q) = rw (stream_first s k q) (verdict_skip d A σ k.class k.start (rest s k) w u)

-- a tree's own faults come after those under it
own_faults : (s : List ℕ) (A i : ℕ) (c : Trees) → faults s (node A i c nil) ≡ faults s c ++ faults_here s A i c
unfolding faults gathered
own_faults s A i c = faults_of s A i c nil ∙ ap (◌++◌ (faults s c)) (append-nil (faults_here s A i c))

-- at the same token, with other faults noted
abbrev pub with_noted : Standing → Noted → Standing
with_noted st n = record { no = st.no; token = st.token; rows = st.rows; rules = st.rules; noted = n }

-- a tree of rule A by its alternative, after which its own faults are noted
pub walked_noting :
    {s : List ℕ} {d : Depth} {A : ℕ} (i : ℕ) {a : Alternative} {M K : Meaning} {st r' : Standing} {n : Noted} {t t' : List ℕ}
    → alternative_of rules A i ≡ some a
    → ((c : Trees) (ds : List Draft) (k : ℕ) → Fits rules a.symbols c → M st.rows st.rules c ds k → n ≡ noting r'.noted (faults_here s A i c))
    → ((σ : List Due) → resume s (due d (r A) ∷ σ) st.no st.token ≡ resume s (opened d a ++ σ) st.no st.token)
    → ((c : Trees) (ds : List Draft) (k : ℕ) → Fits rules a.symbols c → M st.rows st.rules c ds k → K st.rows st.rules (node A i c nil) ds k)
    → Walked s (deeper d a.opens) a.symbols M st r' t t' → Walked s d (r A ∷ []) K st (with_noted r' n) t t'
walked_noting {s} {d} {A} i {a} {M} {K} {st} {r'} {n} {t} {t'} e own enter turn w =
    record {
      verdict = λ σ. enter σ ∙ w.verdict σ;
      within = w.within;
      got = λ q.
          let x = w.got q in
          record {
            before = x.before;
            trees = node A i x.trees nil;
            drafts = x.drafts;
            count = x.count;
            fits = fits_node e x.fits fits_nil;
            reads = rw (append-nil (leaves x.trees)) x.reads;
            means = turn x.trees x.drafts x.count x.fits x.means;
            table = x.table;
            rows = x.rows;
            counted = x.counted;
            noted = own x.trees x.drafts x.count x.fits x.means ∙ rw (own_faults s A i x.trees, noting_append, ← x.noted);
          };
    }

-- one without faults of its own
pub walked_node :
    {s : List ℕ} {d : Depth} {A : ℕ} (i : ℕ) {a : Alternative} {M K : Meaning} {st r' : Standing} {t t' : List ℕ}
    → alternative_of rules A i ≡ some a → Faultless A i
    → ((σ : List Due) → resume s (due d (r A) ∷ σ) st.no st.token ≡ resume s (opened d a ++ σ) st.no st.token)
    → ((c : Trees) (ds : List Draft) (k : ℕ) → Fits rules a.symbols c → M st.rows st.rules c ds k → K st.rows st.rules (node A i c nil) ds k)
    → Walked s (deeper d a.opens) a.symbols M st r' t t' → Walked s d (r A ∷ []) K st r' t t'
walked_node {s} i {r' = r'} e free enter turn w = walked_noting i e (λ c ds k h m. rw (free.none s c) (sym (noting_none r'.noted))) enter turn w

pub counted_node :
    {A i : ℕ} {M K : Meaning} {at n : ℕ} {c : Trees} {ds : List Draft} {k : ℕ}
    → (M at n c ds k → K at n (node A i c nil) ds k) → Counted M at n c ds k → Counted K at n (node A i c nil) ds k
counted_node {c = c} turn x = record { means = turn x.means; few = rw (append-nil (leaves c)) x.few; fewer = x.fewer }

-- a rule that opens one depth too many
pub deep_walked :
    {s : List ℕ} {d : Depth} {A i k : ℕ} {a : Alternative} {β : List Symbol} {M : Meaning} {st : Standing} {x : List ℕ}
    → alternative_of rules A i ≡ some a → a.symbols ≡ t k ∷ β → predict lookahead A k ≡ some i → too_deep (deeper d a.opens) ≡ true → st.no ≡ 0
    → st.token.class ≡ k → k < BAD → Walked s d (r A ∷ []) M st (deep st) x x
deep_walked {s} {d} {A} {i} {k} {a} {β} {M} {st} e b p o z c l =
    record {
      verdict = λ σ. resume_in s d A σ st.no st.token i a (λ q. omega arith) (rw c p) e ∙ (rw b (resume_deep s (deeper d a.opens) k st z c l (due_all (deeper d a.opens) β ++ σ) σ o));
      within = λ w. w;
      got = λ q. absurd (omega arith);
    }

-- the same, said with the reason
pub deep_halts : {s : List ℕ} {d : Depth} {α : List Symbol} {M : Meaning} {st : State} {t t' : List ℕ} → Walked s d α M (going st) (deep (going st)) t t' → Walked s d α M (going st) (halted (refused_deep st)) t t'
deep_halts w = walked_like refl refl (λ q. absurd (omega arith)) w
