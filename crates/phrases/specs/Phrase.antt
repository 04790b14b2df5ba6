-- Reading a phrase: a list of elements, from a token on.
-- Assumes nothing.
use Rattle.std.specs.Prelude.{ℕ, zero, suc, ◌+◌, ◌-◌, Bool, cond, ◌&&◌, List, [], ◌∷◌, map, eqb, ltb, leb, length, get_or, set, Result, Ok, Err, ◌≡◌}
use Rattle.lex.specs.declared.Token.{Token}
use Rattle.lexemes.specs.Classes.{«|», BAD}
use Rattle.lex.specs.Tokens.{token_at}
use Rattle.ll1.specs.ParseTable.{member}
use Rattle.phrases.specs.declared.Cursor.{Cursor}
use Rattle.phrases.specs.declared.kept.Findings.{Findings}
use Rattle.elements.specs.declared.flags.Words.{Words}
use Rattle.elements.specs.declared.noted.Noted.{Noted}
use Rattle.elements.specs.Words.{no_words, with_word, list_entry, list_second}
use Rattle.phrases.specs.Stream.{stream}
use Rattle.elements.specs.Marks.{Fault, outside, noting, with_second}
use Rattle.grammar.specs.Parts.{mark}
use Rattle.grammar.specs.Ranges.{out_of}
use Rattle.elements.specs.Kinds.{MAYBE, GROUP, is_flag_list, starts_of, is_kept, element_range, element_entries}
use Rattle.elements.specs.Symbols.{elements_of}

-- ---- what is kept

-- how many entries are kept, and where; no more than there is room for
pub record Kept : Type 0 where
  pub count : ℕ
  pub list : List ℕ

abbrev pub kept_at : ℕ → List ℕ → Kept
kept_at n l = record { count = n; list = l }

unfoldable pub with_entry : Kept → ℕ → Kept
with_entry k e = record { count = cond (ltb k.count (length k.list)) (k.count + 1) k.count; list = set k.list k.count e }

unfoldable pub with_entries : Kept → List ℕ → Kept
with_entries k [] = k
with_entries k (e ∷ es) = with_entries (with_entry k e) es

-- those of the code, in the slice that was lent
abbrev pub held : Findings → Kept
held f = kept_at f.count f.lent.now

-- the slice that was lent stays the one that is written
abbrev pub IsSameSlice : Findings → Findings → Type 0
IsSameSlice f f' = f'.lent.ghost_name ≡ f.lent.ghost_name

-- entries es after those of f, which then is f'
pub record Keeps (f : Findings) (es : List ℕ) (f' : Findings) : Type 0 where
  pub kept : held f' ≡ with_entries (held f) es
  pub noted : f'.noted ≡ f.noted
  pub lent : IsSameSlice f f'

-- the faults xs noted after those of f, which then is f'
pub record Notes (f : Findings) (xs : List Fault) (f' : Findings) : Type 0 where
  pub kept : held f' ≡ held f
  pub noted : f'.noted ≡ noting f.noted xs
  pub lent : IsSameSlice f f'

-- ---- where the reader stands

-- the refusal or 0; the token; the faults that are noted; how many elements are left out still; what is kept
pub record Reader : Type 0 where
  pub no : ℕ
  pub token : Token
  pub noted : Noted
  pub skip : ℕ
  pub kept : Kept

abbrev pub reader : Cursor → List ℕ → Reader
reader c l = record { no = c.no; token = c.token; noted = c.noted; skip = 0; kept = kept_at c.count l }

-- without a refusal, at an element that is not left out
abbrev pub ready : Token → Noted → Kept → Reader
ready t n k = record { no = 0; token = t; noted = n; skip = 0; kept = k }

-- at the first element
abbrev pub starting : Token → Noted → List ℕ → Reader
starting t n l = ready t n (kept_at 0 l)

-- past the token, which keeps nothing
abbrev pub passing : List ℕ → Reader → Reader
passing s x = ready (token_at s x.token.end) x.noted x.kept

-- with n elements to leave out
abbrev pub skipping : Reader → ℕ → Reader
skipping x n = record { no = x.no; token = x.token; noted = x.noted; skip = n; kept = x.kept }

-- refused at the token: No. 3
abbrev pub refusing : Reader → Token → Reader
refusing x t = record { no = 3; token = t; noted = x.noted; skip = 0; kept = x.kept }

-- without the group that is left out
abbrev pub leaving : Reader → Reader
leaving x = skipping (ready x.token x.noted (with_entry x.kept 0)) GROUP

-- one element less to leave out
abbrev pub leaving_one : Reader → Reader
leaving_one x = skipping x (x.skip - 1)

-- where the code's reader stands
abbrev pub stands : Token → Findings → Reader
stands t f = ready t f.noted (held f)

-- and where it comes to, or the token that is refused
abbrev pub went_at : Result Token Token → Noted → Kept → Reader
went_at (Ok t) n k = ready t n k
went_at (Err t) n k = refusing (ready t n k) t

abbrev pub went : Result Token Token → Findings → Reader
went r f = went_at r f.noted (held f)

-- the same past an element whose last token ends at a place
abbrev pub went_past : List ℕ → Result ℕ Token → Findings → Reader
went_past s (Ok end) f = stands (token_at s end) f
went_past s (Err t) f = refusing (stands t f) t

-- ---- elements of one token

-- the token is taken
unfoldable pub taking : List ℕ → Reader → ℕ → Reader
taking s x e =
    cond (is_kept e)
    (ready
    (token_at s x.token.end)
    (noting x.noted (map outside (out_of s (element_range e x.token.class) (x.token.start ∷ []))))
    (with_entries x.kept (element_entries e x.token.class x.token.start)))
    (passing s x)

-- ---- FL

-- the flag words of the element e from the token t on, with those before it; no more than the first number
unfoldable pub flags_from : ℕ → List ℕ → Reader → ℕ → Token → Words → Reader
flags_from zero s x e t w = refusing x t
flags_from (suc n) s x e t w =
    let bar = token_at s t.end in
    let words = with_word w t.class (mark t.start) in
    let more = flags_from n s x e (token_at s bar.end) words in
    let last = ready bar (with_second x.noted (list_second e words)) (with_entry x.kept (list_entry e words)) in
    cond (member t.class (starts_of e)) (cond (eqb bar.class «|») more last) (refusing x t)

-- there are no more of them than tokens
unfoldable pub taking_flags : List ℕ → Reader → ℕ → Reader
taking_flags s x e = flags_from (length (stream s x.token)) s x e x.token no_words

-- ---- elements

-- an element other than MAYBE
abbrev pub fitting : List ℕ → Reader → ℕ → Reader
fitting s x e = cond (member x.token.class (starts_of e)) (cond (is_flag_list e) (taking_flags s x e) (taking s x e)) (refusing x x.token)

-- an element that is not left out, with the element after it
unfoldable pub reading : List ℕ → Reader → ℕ → ℕ → Reader
reading s x e next = cond (eqb e MAYBE) (cond (eqb x.token.class next) x (leaving x)) (fitting s x e)

-- an element, with the one after it; a refusal is handed on
unfoldable pub step_of : List ℕ → Reader → ℕ → ℕ → Reader
step_of s x e next = cond (eqb x.skip 0) (cond (eqb x.no 0) (reading s x e next) x) (leaving_one x)

-- the phrase; a group is left out as far as there is one
unfoldable pub phrase_from : List ℕ → List ℕ → Reader → Reader
phrase_from s [] x = skipping x 0
phrase_from s (e ∷ p) x = phrase_from s p (step_of s x e (get_or p 0 0))

-- ---- a phrase by its number

-- a token with bytes starts past the source
abbrev pub starts_past : List ℕ → Token → Bool
starts_past s t = ltb t.class BAD && leb (length s) t.start

-- nothing read, with the refusal n or 0
abbrev pub unread : ℕ → Token → Noted → List ℕ → Reader
unread n t f l = record { no = n; token = t; noted = f; skip = 0; kept = kept_at 0 l }

-- a phrase from the token t on, where n is 0; a refusal n is handed on, and nothing is read from a token that starts past the source
unfoldable pub phrase_read : List ℕ → ℕ → Token → Noted → ℕ → List ℕ → Reader
phrase_read s n t f phrase l =
    cond (eqb n 0) (cond (starts_past s t) (unread n t f l) (phrase_from s (elements_of phrase) (starting t f l))) (unread n t f l)
