-- A phrase refuses a token with No. 3 alone.
-- Assumes nothing.
use Prim.Native.Nat.{ℕ, zero, suc}
use mathlib.Core.Path.{◌≡◌, refl}
use mathlib.Core.Bool.{Bool, true, false, cond}
use mathlib.Core.List.{List, [], ◌∷◌}
use mathlib.Core.Logic.{◌⊎◌, inl, inr, ◌≢◌}
use lib.Dec.{eqb}
use lib.ListN.{length, get_or}
use Rattle.lex.specs.declared.Token.{Token}
use Rattle.lexemes.specs.Classes.{«|»}
use Rattle.lex.specs.Tokens.{token_at}
use Rattle.ll1.specs.ParseTable.{member}
use Rattle.grammar.specs.Parts.{mark}
use Rattle.elements.specs.declared.flags.Words.{Words}
use Rattle.elements.specs.declared.noted.Noted.{Noted}
use Rattle.elements.specs.Words.{no_words, with_word}
use Rattle.elements.specs.Kinds.{MAYBE, is_flag_list, starts_of, is_kept}
use Rattle.elements.specs.Symbols.{elements_of}
use Rattle.phrases.specs.Stream.{stream}
use Rattle.phrases.specs.Phrase.{Reader, starting, taking, flags_from, taking_flags, fitting, reading, step_of, phrase_from, starts_past, phrase_read}

-- not refused, or with 3
abbrev OnlySyntax : Reader → Type 0
OnlySyntax x = (x.no ≡ 0) ⊎ (x.no ≡ 3)

one_way : (b : Bool) (x y : Reader) → OnlySyntax x → OnlySyntax y → OnlySyntax (cond b x y)
one_way true x y p q = p
one_way false x y p q = q

flags_only : (n : ℕ) (s : List ℕ) (x : Reader) (e : ℕ) (t : Token) (w : Words) → OnlySyntax (flags_from n s x e t w)
unfolding flags_from
flags_only zero s x e t w = inr refl
flags_only (suc n) s x e t w =
    let bar = token_at s t.end in
    one_way (member t.class (starts_of e)) _ _ (one_way (eqb bar.class «|») _ _ (flags_only n s x e (token_at s bar.end) (with_word w t.class (mark t.start))) (inl refl)) (inr refl)

taking_only : (s : List ℕ) (x : Reader) (e : ℕ) → OnlySyntax (taking s x e)
unfolding taking
taking_only s x e = one_way (is_kept e) _ _ (inl refl) (inl refl)

taking_flags_only : (s : List ℕ) (x : Reader) (e : ℕ) → OnlySyntax (taking_flags s x e)
unfolding taking_flags
taking_flags_only s x e = flags_only (length (stream s x.token)) s x e x.token no_words

fitting_only : (s : List ℕ) (x : Reader) (e : ℕ) → OnlySyntax (fitting s x e)
fitting_only s x e =
    one_way (member x.token.class (starts_of e)) _ _ (one_way (is_flag_list e) _ _ (taking_flags_only s x e) (taking_only s x e)) (inr refl)

reading_only : (s : List ℕ) (x : Reader) (e next : ℕ) → OnlySyntax x → OnlySyntax (reading s x e next)
unfolding reading
reading_only s x e next h = one_way (eqb e MAYBE) _ _ (one_way (eqb x.token.class next) _ _ h (inl refl)) (fitting_only s x e)

step_only : (s : List ℕ) (x : Reader) (e next : ℕ) → OnlySyntax x → OnlySyntax (step_of s x e next)
unfolding step_of
step_only s x e next h = one_way (eqb x.skip 0) _ _ (one_way (eqb x.no 0) _ _ (reading_only s x e next h) h) h

phrase_only : (s p : List ℕ) (x : Reader) → OnlySyntax x → OnlySyntax (phrase_from s p x)
unfolding phrase_from
phrase_only s [] x h = h
phrase_only s (e ∷ p) x h = phrase_only s p (step_of s x e (get_or p 0 0)) (step_only s x e (get_or p 0 0) h)

pub syntax_only : (s : List ℕ) (t : Token) (f : Noted) (k : ℕ) (l : List ℕ) → (phrase_read s 0 t f k l).no ≢ 0 → (phrase_read s 0 t f k l).no ≡ 3
unfolding phrase_read
syntax_only s t f k l = by (phrase_read s 0 t f k l) (one_way (starts_past s t) _ _ (inl refl) (phrase_only s (elements_of k) (starting t f l) (inl refl)))
  where
    by : (x : Reader) → OnlySyntax x → x.no ≢ 0 → x.no ≡ 3
    by x (inl z) h = absurd (h z)
    by x (inr e) h = e
