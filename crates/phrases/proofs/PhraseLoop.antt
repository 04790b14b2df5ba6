-- The loop over a pattern's elements, turn by turn.
-- Assumes nothing.
use Prim.Native.Nat.{ℕ, zero, suc, ◌-◌, ◌<◌, min}
use Rattle.std.proofs.lemmas.List.{take_all, drop_min}
use mathlib.Core.Path.{◌≡◌, refl, sym, ap, ◌∙◌}
use mathlib.Core.Bool.{Bool, true, false, cond}
use mathlib.Core.List.{List, [], ◌∷◌}
use mathlib.Core.Logic.{◌≢◌}
use native.Mathlib.Omega.{arith}
use lib.Dec.{eqb}
use lib.ListN.{length, get_or, take, drop, length-drop}
use Rattle.lex.specs.declared.Token.{Token}
use Rattle.lexemes.specs.Classes.{«|», NAME}
use Rattle.lex.specs.Tokens.{token_at}
use Rattle.ll1.specs.ParseTable.{member}
use Rattle.elements.specs.declared.flags.Words.{Words}
use Rattle.elements.specs.declared.noted.Noted.{Noted}
use Rattle.elements.specs.Words.{with_word}
use Rattle.grammar.specs.Parts.{mark}
use Rattle.phrases.specs.Stream.{Within}
use Rattle.elements.specs.Kinds.{MAYBE, GROUP, is_flag_list, starts_of, is_kept}
use Rattle.phrases.specs.Phrase.{Kept, with_entries, Reader, ready, skipping, refusing, taking, flags_from, taking_flags, fitting, step_of, phrase_from}
use Rattle.phrases.proofs.Streams.{within_at}
use Rattle.phrases.proofs.ReadingLaws.{reads_group, leaves_group, reads_tokens, takes_word, refuses_word, step_on, left_out, handed_on}

-- ---- every token that is reached starts within the source

record Inside (s : List ℕ) (x : Reader) : Type 0 where
  pub within : Within s x.token

module _ (s : List ℕ) where
  either_way : (b : Bool) {x y : Reader} → Inside s x → Inside s y → Inside s (cond b x y)
  either_way true v w = v
  either_way false v w = w

  flags_inside : (n : ℕ) (x : Reader) (e : ℕ) (u : Token) (w : Words) → Within s u → Inside s (flags_from n s x e u w)
  unfolding flags_from
  flags_inside zero x e u w h = record { within = h }
  flags_inside (suc n) x e u w h =
      let bar = token_at s u.end in
      let more = flags_inside n x e (token_at s bar.end) (with_word w u.class (mark u.start)) (within_at s bar.end) in
      either_way (member u.class (starts_of e)) (either_way (eqb bar.class «|») more (record { within = within_at s u.end })) (record { within = h })

  module _ (x : Reader) (e : ℕ) (h : Within s x.token) where
    taking_inside : Inside s (taking s x e)
    unfolding taking
    taking_inside = let next = within_at s x.token.end in either_way (is_kept e) (record { within = next }) (record { within = next })

    fitting_inside : Inside s (fitting s x e)
    unfolding taking_flags
    fitting_inside =
        either_way (member x.token.class (starts_of e)) (either_way (is_flag_list e) (flags_inside _ x e x.token _ h) taking_inside) (record { within = h })

-- ---- the turns

-- from x to y the pattern p is read as far as where q is left
pub record Turns (s p : List ℕ) (x : Reader) (q : List ℕ) (y : Reader) : Type 0 where
  pub same : phrase_from s p x ≡ phrase_from s q y
  pub within : Within s y.token

pub turns_none : (s p : List ℕ) (x : Reader) → Within s x.token → Turns s p x p x
turns_none s p x h = record { same = refl; within = h }

module _ {s p : List ℕ} {x y : Reader} {e : ℕ} {q : List ℕ} (w : Turns s p x (e ∷ q) y) where
  turns_more : {y' : Reader} → y' ≡ step_of s y e (get_or q 0 0) → Within s y'.token → Turns s p x q y'
  unfolding phrase_from
  turns_more f within = record { same = w.same ∙ ap (phrase_from s q) (sym f); within = within }

turns_off : {s p q : List ℕ} {x y : Reader} → Turns s p x q y → y.skip ≡ 0 → y.no ≢ 0 → y ≡ phrase_from s p x
turns_off {s} {q = q} {y = y} w z h = sym (w.same ∙ handed_on s q y z h)

turns_skip : {s p q : List ℕ} {x : Reader} (y : Reader) (n : ℕ) → Turns s p x q (skipping y n) → Turns s p x (drop n q) (skipping y 0)
turns_skip {s} {q = q} y n w = record { same = w.same ∙ left_out s n q y; within = w.within }

-- the whole pattern is read
pub turns_all : {s p q : List ℕ} {x : Reader} {t : Token} {was : Noted} {kept : Kept} → length q ≡ 0 → Turns s p x q (ready t was kept) → ready t was kept ≡ phrase_from s p x
unfolding phrase_from
turns_all {q = []} e w = sym w.same
turns_all {q = k ∷ q} e w = absurd (omega arith)

-- the code's slice without a group, as far as there is one
past_group : (q : List ℕ) → take (length q - min GROUP (length q)) (drop (min GROUP (length q)) q) ≡ drop GROUP q
past_group q = take_all (length q - min GROUP (length q)) (drop (min GROUP (length q)) q) (omega (arith, length-drop (min GROUP (length q)) q)) ∙ drop_min GROUP q

-- the turns of the code, from the token t, the faults noted, and what is kept
module _ {s p : List ℕ} {x : Reader} {e : ℕ} {q : List ℕ} {t : Token} {was : Noted} {kept : Kept} (w : Turns s p x (e ∷ q) (ready t was kept)) where
  abbrev here : Reader
  here = ready t was kept

  abbrev next : ℕ
  next = get_or q 0 0

  step_tokens : e ≢ MAYBE → step_of s here e next ≡ fitting s here e
  step_tokens m = step_on s here e next refl refl ∙ reads_tokens s here e next m

  -- a sign or a reserved word
  pub turns_word : {t' : Token} → e < NAME → t.class ≡ e → t' ≡ token_at s t.end → Turns s p x q (ready t' was kept)
  turns_word l c f = rw f (turns_more w (sym (step_tokens (λ z. omega arith) ∙ takes_word s here e l c)) (within_at s t.end))

  pub refused_word : e < NAME → t.class ≢ e → refusing here t ≡ phrase_from s p x
  refused_word l c = turns_off (turns_more w (sym (step_tokens (λ z. omega arith) ∙ refuses_word s here e l c)) w.within) refl (λ z. omega arith)

  -- a group that is there, and one that is not
  pub turns_group : {n : ℕ} → e ≡ MAYBE → n ≡ next → t.class ≡ n → Turns s p x q here
  turns_group m f c = turns_more w (sym (step_on s here e next refl refl ∙ reads_group s here e next m (c ∙ f))) w.within

  pub turns_absent :
      {n m : ℕ} {kept' : Kept} → e ≡ MAYBE → n ≡ next → t.class ≢ n → kept' ≡ with_entries kept (0 ∷ []) → m ≡ min GROUP (length q)
      → Turns s p x (take (length q - m) (drop m q)) (ready t was kept')
  unfolding with_entries
  turns_absent {kept' = kept'} m f c k g =
      rw (g, past_group q)
      (turns_skip (ready t was kept') GROUP
      (turns_more w (leaves_group s here e next m (λ z. c (z ∙ sym f)) k ∙ sym (step_on s here e next refl refl)) w.within))

  -- any other element
  module _ (m : e ≢ MAYBE) where
    pub turns_taken : {y : Reader} → y ≡ fitting s here e → Turns s p x q y
    turns_taken f = turns_more w (f ∙ sym (step_tokens m)) (rw f (fitting_inside s here e w.within).within)

    pub refused_element : {y : Reader} → y ≡ fitting s here e → y.skip ≡ 0 → y.no ≢ 0 → y ≡ phrase_from s p x
    refused_element f z h = turns_off (turns_taken f) z h
