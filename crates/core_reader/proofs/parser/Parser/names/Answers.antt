use Rattle.std.proofs.Common.{◌≡◌, ◌≤◌, length, ℕ, List, ◌++◌, ◌∷◌, [], ◌∙◌, refl, ap, sym, arith}
use Rattle.core_reader.specs.declared.syntax.NameId.{NameId}
use Rattle.core_reader.specs.declared.syntax.Binder.{Binder}
use Rattle.core_reader.specs.declared.token.Lexeme.{Lexeme}
use Rattle.core_reader.specs.declared.token.Token.TheVariants as word
use Rattle.core_reader.specs.Grammar.{lexeme, binders}
use Rattle.core_reader.specs.Machine.{front, behind}
use Rattle.core_reader.proofs.Taking.{behind_shorter}
use Rattle.core_reader.proofs.parser.Parser.names.Goals as goal

-- the name that stands next, and what stands behind it
split : (ts : List Lexeme) (n : NameId) → (front ts).token ≡ word.Name n
    → ts ≡ lexeme (front ts).at (word.Name n) ∷ behind ts
split [] n e = absurd cc
split (t ∷ ts) n e = λ i. record { at = t.at; token = e i } ∷ ts

taken : (ts : List Lexeme) (x : Lexeme) (n : NameId) (after : List Lexeme) → x ≡ front ts
    → x.token ≡ word.Name n → after ≡ behind ts → ts ≡ lexeme x.at (word.Name n) ∷ after
taken ts x n after front_is token_is after_is =
    split ts n (ap (λ (y : Lexeme). y.token) (sym front_is) ∙ token_is)
    ∙ ap (λ (y : Lexeme). lexeme y.at (word.Name n) ∷ behind ts) (sym front_is)
    ∙ ap (λ w. lexeme x.at (word.Name n) ∷ w) (sym after_is)

name_last : (names : List Binder) (b : Binder) (after : List Lexeme) → binders names
    ++ lexeme b.at (word.Name b.name) ∷ after ≡ binders (names ++ b ∷ []) ++ after
name_last [] b after = refl
name_last (n ∷ names) b after = ap (λ w. lexeme n.at (word.Name n.name) ∷ w)
    (name_last names b after)

farther : (a b c d : ℕ) → a ≡ b → b ≤ c → c ≤ d → a ≤ d
farther a b c d e h g = omega arith

pub loop-name-preserved : goal.loop-name-preserved
loop-name-preserved c = record {
  reads =
      let before = c.loop-name.names.items in
      let b : Binder = record { name = c.in-Name.name; at = c.peek-next.result.at } in
      let after = c.advance.new.self.rest.now in
      c.loop-name.invariant.reads
      ∙ ap (λ w. binders before ++ w)
      (taken c.loop-name.self.rest.now c.peek-next.result c.in-Name.name after
      c.peek-next.ensures c.in-Name.is c.advance.ensures.rest)
      ∙ name_last before b after
      ∙ ap (λ w. binders w ++ after) (sym c.in_ok-push-in-Name.ensures.items);
  shorter = farther _ _ _ _ (ap length c.advance.ensures.rest)
      (behind_shorter c.loop-name.self.rest.now) c.loop-name.invariant.shorter;
  depth = c.advance.ensures.depth ∙ c.loop-name.invariant.depth;
}
