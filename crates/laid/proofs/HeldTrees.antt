-- A table that holds the draft rows of trees holds those of the first one, of the trees under it and of those after it.
-- Assumes nothing.
use Prim.Native.Nat.{ℕ, suc, ◌+◌, ◌<◌}
use native.Mathlib.Omega.{arith}
use mathlib.Core.Path.{◌≡◌, refl, ap, ◌∙◌}
use mathlib.Core.Bool.{Bool, true, false, not, ◌&&◌, ◌||◌}
use mathlib.Core.List.{List, [], ◌∷◌, ◌++◌, append-nil}
use mathlib.Core.Option.{some}
use lib.Dec.{eqb, ltb}
use lib.ListN.{length, length-append}
use borrow.Author.Tests.{eq-eqb, ltb-true}
use Rattle.rows.specs.Columns as column
use Rattle.rows.specs.Codes.{is_expression}
use Rattle.rows.specs.Table.{row_at, cell_at}
use Rattle.ll1.specs.Trees.{Trees, nil, node, Symbol, terminal, nonterminal, Alternative, alternative_of}
use Rattle.ll1.proofs.Basics.{implied}
use Rattle.grammar.specs.Rules.{<source>, <rule>, <item>}
use Rattle.grammar.specs.Grammar.{rules}
use Rattle.grammar.specs.Parts.{place_at}
use Rattle.answers.specs.Rows.{Draft, form_set, own_rows, parent_in, drafts_of, rules_in}
use Rattle.grammar.proofs.Alternatives.{everywhere, at_alternative}
use Rattle.laid.specs.Statements.{makes_row, code_of, inner_of}
use Rattle.laid.proofs.Held.{RowHeld, Held, held_parts, first_held, rest_held}
use Rattle.laid.proofs.OwnRows.{InnerRows, own_of, none_of_lem}

-- ---- what the grammar tells of statements

-- the form set stands in nothing
abbrev pub no_source : List Symbol → Bool
no_source [] = true
no_source (terminal k ∷ σ) = no_source σ
no_source (nonterminal A ∷ σ) = not (eqb A <source>) && no_source σ

pub no_source_under : everywhere (λ A i a. no_source a.symbols) ≡ true
unfolding rules
no_source_under = refl

ten_items : everywhere (λ A i a. not (eqb A <item>) || ltb i 10) ≡ true
unfolding rules
ten_items = refl

pub item_of_ten : {A i : ℕ} {a : Alternative} → alternative_of rules A i ≡ some a → A ≡ <item> → i < 10
item_of_ten {A} {i} e q = ltb-true i 10 (implied (eqb A <item>) (ltb i 10) (at_alternative _ ten_items e) (eq-eqb A <item> q))

module _ (t : List ℕ) (found : ℕ → List ℕ) (value : ℕ → ℕ) (parent at n A i : ℕ) (c f : Trees) where
  -- the rows of the trees c under a tree stand in the row p, from the row j on; after them come those of the trees f after it
  pub record Parts (p j : ℕ) : Type 0 where
    pub under : Held t found (drafts_of value c p j n) j
    -- from the row k on, and with so many rules before them
    pub k : ℕ
    pub k_is : k ≡ j + length (drafts_of value c p j n)
    pub rules_before : ℕ
    pub rules_are : rules_before ≡ n + rules_in (node A i c nil)
    pub after : Held t found (drafts_of value f parent k rules_before) k
    pub end : at + length (drafts_of value (node A i c f) parent at n) ≡ k + length (drafts_of value f parent k rules_before)

  abbrev own : List Draft
  own = own_rows value parent at n A i c

  node_held :
      Held t found (drafts_of value (node A i c f) parent at n) at
      → Held t found own at × Parts (parent_in value parent at own) (at + length own)
  node_held h =
      let under = drafts_of value c (parent_in value parent at own) (at + length own) n in
      let later = drafts_of value f parent (at + length (own ++ under)) (n + rules_in (node A i c nil)) in
      let whole = held_parts t found (own ++ under) h in
      let first = held_parts t found own whole.0 in (
        first.0,
        record {
          under = first.1;
          k = at + length (own ++ under);
          k_is = omega (arith, length-append own under);
          rules_before = n + rules_in (node A i c nil);
          rules_are = refl;
          after = whole.1;
          end = omega (arith, length-append (own ++ under) later);
        },
      )

  -- a statement: its row, the rows of what stands in it, and the other rows
  pub record StatementHeld : Type 0 where
    pub row_is : row_at t at ≡ found (place_at 0 c)
    pub code_is : cell_at t at column.CODE ≡ code_of A i
    pub part : is_expression (code_of A i) ≡ false
    pub parent_is : cell_at t at column.PARENT ≡ parent
    pub own_is : A ≡ <rule> → cell_at t at column.OWN ≡ suc n
    pub others : List Draft
    pub inner : InnerRows value at (inner_of A i c) others
    pub inner_held : Held t found others (suc at)
    pub parts : Parts at (suc at + length others)

  pub statement_held :
      {a : Alternative}
      → alternative_of rules A i ≡ some a → makes_row A ≡ true
      → Held t found (drafts_of value (node A i c f) parent at n) at → StatementHeld
  statement_held e made h =
      let whole = node_held h in
      let own = own_of value parent at n c A i made (item_of_ten e) in
      let mine : Held t found (own.first ∷ own.others) at = rw own.is at whole.0 in
      let row = first_held t found mine in
      let next : at + suc (length own.others) ≡ suc at + length own.others = omega arith in
      record {
        row_is = rw own.place_is at row.row_is;
        code_is = row.code_is ∙ own.code_is;
        part = own.part;
        parent_is = row.parent_is ∙ own.parent_is;
        own_is = λ q. (first_held t found (rw q at whole.0)).own_is refl;
        others = own.others;
        inner = own.inner;
        inner_held = rest_held t found mine;
        parts = rw next at (rw (own.is, parent_in) at whole.1);
      }

  -- a tree that is no statement: the rows of the trees under it stand where its own would
  pub plain_held :
      makes_row A ≡ false → eqb A <source> ≡ false
      → Held t found (drafts_of value (node A i c f) parent at n) at → Parts parent at
  plain_held made s h =
      let next : at + 0 ≡ at = omega arith in
      rw next at (rw (none_of_lem value parent at n A i c made s, parent_in) at (node_held h).1)

-- ---- the tree of a source

module _ (value : ℕ → ℕ) (i : ℕ) (c : Trees) where
  source_rows_lem : drafts_of value (node <source> i c nil) 0 0 0 ≡ form_set value c ∷ drafts_of value c 0 1 0
  source_rows_lem = append-nil (form_set value c ∷ drafts_of value c 0 1 0)

  pub source_size : length (drafts_of value (node <source> i c nil) 0 0 0) ≡ suc (length (drafts_of value c 0 1 0))
  source_size = ap length source_rows_lem

  -- the form set's row, and those in it
  pub source_held :
      (t : List ℕ) (found : ℕ → List ℕ)
      → Held t found (drafts_of value (node <source> i c nil) 0 0 0) 0
      → RowHeld t found (form_set value c) 0 × Held t found (drafts_of value c 0 1 0) 1
  source_held t found h =
      let rows : Held t found (form_set value c ∷ drafts_of value c 0 1 0) 0 = rw source_rows_lem at h in
      (first_held t found rows, rest_held t found rows)
