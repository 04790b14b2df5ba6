-- What reading a phrase gives: its elements spell symbols of the grammar.
-- Assumes nothing.
use Prim.Native.Nat.{ℕ, ◌≤◌}
use mathlib.Core.Path.{◌≡◌, refl, sym, ap, ◌∙◌, subst}
use mathlib.Core.Bool.{true, false, not, ◌||◌}
use mathlib.Core.List.{List, [], ◌++◌}
use mathlib.Core.Logic.{◌≢◌}
use native.Mathlib.Omega.{arith}
use native.Mathlib.Decide.{ℕ_discrete}
use lib.Dec.{eqb}
use borrow.Author.Tests.{eq-eqb, ne_eqb}
use Rattle.lex.specs.declared.Token.{Token}
use Rattle.ll1.specs.Trees.{Symbol}
use Rattle.ll1.specs.Machine.{due_all}
use Rattle.std.specs.Prelude.{Result}
use Rattle.phrases.specs.declared.Cursor.{Cursor}
use Rattle.phrases.specs.declared.kept.Findings.{Findings}
use Rattle.elements.specs.declared.noted.Noted.{Noted}
use Rattle.elements.specs.Entries.{KEPT, entries}
use Rattle.elements.specs.Symbols.{symbols_of, elements_of}
use Rattle.phrases.specs.Stream.{Within}
use Rattle.phrases.specs.Phrase.{Kept, kept_at, Reader, reader, went_at, went, starting, skipping, phrase_from, starts_past, unread, phrase_read}
use Rattle.phrases.specs.Passed.{Passed}
use Rattle.elements.proofs.Spelling.{widths, Spells}
use Rattle.elements.proofs.EachSpelled.{phrase_spelled, phrase_has_room}
use Rattle.phrases.proofs.Streams.{not_past}
use Rattle.phrases.proofs.Keeping.{kept_written}
use Rattle.phrases.proofs.Resume.{resume_off}
use Rattle.phrases.proofs.Pieces.{Many}
use Rattle.phrases.proofs.Runs.{ran}

module _ {s : List ℕ} {α : List Symbol} {t : Token} {was : Noted} {l : List ℕ} {c : Cursor} {l' : List ℕ} where
  passed : {w : ℕ} → w ≤ KEPT → Many s α w (starting t was l) (reader c l') → Passed s α 0 t was l c l'
  passed h m =
      record {
        verdict = m.verdict;
        got = λ q.
            let g = m.got q in
            record {
              trees = g.trees;
              before = g.before;
              fits = g.fits;
              few = let f = g.few in omega arith;
              reads = g.reads;
              kept = ap (λ (k : Kept). k.list) g.kept ∙ kept_written l (entries g.trees);
              noted_are = g.noted;
            };
        within = m.within;
      }

  read_spelled : {p : List ℕ} → Spells α p [] → widths p ≤ KEPT → reader c l' ≡ phrase_from s p (starting t was l) → Passed s α 0 t was l c l'
  unfolding phrase_from
  read_spelled w room e =
      let o = ran s w (starting t was l) refl in
      let f = o.few in
      passed (omega arith) (subst (Many s α o.most (starting t was l)) (sym (e ∙ (o.same ∙ ap (skipping o.to) (sym o.many.skip)))) o.many)

module _ (s : List ℕ) (n : ℕ) (t : Token) (was : Noted) (k : ℕ) (l : List ℕ) where
  -- a refusal is handed on
  handed_on : n ≢ 0 → Passed s (symbols_of k) n t was l (record { no = n; token = t; noted = was; count = 0 }) l
  handed_on h =
      record {
        verdict = λ σ d o. resume_off s (due_all d (symbols_of k) ++ σ) σ n t h;
        got = λ q. absurd (h q);
        within = λ w. w;
      }

  -- ---- the branches of a phrase by its number

  pub read_refused : n ≢ 0 → phrase_read s n t was k l ≡ unread n t was l
  unfolding phrase_read
  read_refused h = rw (ne_eqb n 0 h)

  -- a refusal, and a token past the source
  pub read_handed : not (eqb n 0) || starts_past s t ≡ true → phrase_read s n t was k l ≡ unread n t was l
  unfolding phrase_read
  read_handed h = by (ℕ_discrete n 0)
    where
      by : Dec (n ≡ 0) → phrase_read s n t was k l ≡ unread n t was l
      by (yes z) = rw (z, rw z at h)
      by (no f) = read_refused f

  pub read_on : n ≡ 0 → starts_past s t ≡ false → phrase_read s n t was k l ≡ phrase_from s (elements_of k) (starting t was l)
  unfolding phrase_read
  read_on z h = rw (eq-eqb n 0 z, h)

  -- no refusal, and a token within the source
  pub read_here : not (eqb n 0) || starts_past s t ≡ false → (n ≡ 0) × (starts_past s t ≡ false)
  read_here h = by (ℕ_discrete n 0)
    where
      by : Dec (n ≡ 0) → (n ≡ 0) × (starts_past s t ≡ false)
      by (yes z) = (z, rw z at h)
      by (no f) = absurd (let e : not (eqb n 0) || starts_past s t ≡ false = h in cc (rw (ne_eqb n 0 f) at e))

-- ---- the theorem

module _ {s : List ℕ} {n : ℕ} {t : Token} {was : Noted} {l : List ℕ} {c : Cursor} {l' : List ℕ} where
  same_reader : {α : List Symbol} {d : Cursor} {m : List ℕ} → reader c l' ≡ reader d m → Passed s α n t was l d m → Passed s α n t was l c l'
  same_reader {α} e p =
      subst (λ (x : Reader). Passed s α n t was l (record { no = x.no; token = x.token; noted = x.noted; count = x.kept.count }) x.kept.list) (sym e) p

  -- from a token within the source the verdict is as if the phrase's symbols were due before; and where there is no refusal, the trees
  pub phrase_passed : (k : ℕ) → Within s t → reader c l' ≡ phrase_read s n t was k l → Passed s (symbols_of k) n t was l c l'
  phrase_passed k w e = by (ℕ_discrete n 0)
    where
      by : Dec (n ≡ 0) → Passed s (symbols_of k) n t was l c l'
      by (yes z) = rw z (read_spelled (phrase_spelled k) (phrase_has_room k) (e ∙ read_on s n t was k l z (not_past s t w)))
      by (no h) = same_reader (e ∙ read_refused s n t was k l h) (handed_on s n t was k l h)

-- ---- the slice that was lent holds what was kept

pub landed : (r : Result Token Token) (f : Findings) {l : List ℕ} {x : Reader} → went r f ≡ x → l ≡ f.lent.now → went_at r f.noted (kept_at f.count l) ≡ x
landed r f e q = rw q e
