-- The renaming of a body, part by part.
use Rattle.std.proofs.Common.{◌≡◌, ℕ, List, [], ◌∷◌, ◌++◌, map, length, drop, ◌-◌, refl, sym, ap, ◌∙◌, append_assoc}
use Rattle.std.specs.List.{AllZip}
use Rattle.core_reader.specs.declared.syntax.Binder.{Binder}
use Rattle.core_reader.specs.declared.syntax.Alt.{Alt}
use Rattle.core_reader.specs.Tree.{Term, AndTerm, Bind, Expr, Let, Case, Alts, alternative, terms_of, alts_of}
use Rattle.core_reader.proofs.TreeOf.{application_of, term_of-Name, term_of-Con, term_of-Int, term_of-Bracket, alternative_of, expr_of-App, expr_of-Let, expr_of-Case}
use Rattle.arity_check.specs.Scope.{Scope}
use Rattle.arity_check.specs.Pieces.{binders_of}
use Rattle.arity_check.proofs.Counts.{left_append}
use Rattle.match_compile.specs.Renamed.{shadowing, renamed_term, renamed_terms, renamed_bind, renamed_expr, renamed_alts}

pub ruleset trees = (
  application_of,
  term_of-Name,
  term_of-Con,
  term_of-Int,
  term_of-Bracket,
  alternative_of,
  expr_of-App,
  expr_of-Let,
  expr_of-Case,
)

hidden_append : (bs : List Binder) (s : Scope) → (added : Scope) × (shadowing bs s ≡ added ++ s)
hidden_append [] s = ([], refl)
hidden_append (b ∷ bs) s =
    let rest = hidden_append bs ((b.name.0, b.name.0) ∷ s) in (
      rest.0 ++ ((b.name.0, b.name.0) ∷ []),
      rest.1 ∙ sym
          (append_assoc rest.0 ((b.name.0, b.name.0) ∷ []) s),
    )

-- the scope around is left, where the names that are bound leave it
pub leaves : (bs : List Binder) (s t u v : Scope) (n : ℕ) → n ≡ length s → t ≡ shadowing bs s
    → u ≡ t → v ≡ drop (length u - n) u → v ≡ s
leaves bs s t u v n len e f g =
    let added = hidden_append bs s in
    let is : u ≡ added.0 ++ s = f ∙ e ∙ added.1 in
    g ∙ (λ i. drop (length (is i) - len i) (is i)) ∙ left_append added.0 s

module _ (s : Scope) where
  pub terms_renamed : (ts : List Term) → terms_of (map (renamed_term s) ts) ≡ renamed_terms s
      (terms_of ts)
  terms_renamed [] = refl
  terms_renamed (t ∷ ts) = ap (λ u. AndTerm (renamed_term s t) u) (terms_renamed ts)

  -- an alternative and what is made of it, before any others
  abbrev pub Renews : Alt → Alt → Type 0
  Renews a b = (rest : Alts) → alternative b (renamed_alts s rest) ≡ renamed_alts s
      (alternative a rest)

  pub alts_renamed : (as' bs : List Alt) → AllZip Renews as' bs
      → alts_of (map alternative bs) ≡ renamed_alts s (alts_of (map alternative as'))
  alts_renamed [] [] h = refl
  alts_renamed [] (b ∷ bs) h = absurd h
  alts_renamed (a ∷ as') [] h = absurd h
  alts_renamed (a ∷ as') (b ∷ bs) h = ap (alternative b) (alts_renamed as' bs h.1) ∙ h.0
      (alts_of (map alternative as'))

  -- one more of each
  pub renews_more : (as' bs : List Alt) (a b : Alt) → AllZip Renews as' bs → Renews a b
      → AllZip Renews (as' ++ a ∷ []) (bs ++ b ∷ [])
  renews_more [] [] a b h r = (r, tt)
  renews_more [] (c ∷ bs) a b h r = absurd h
  renews_more (c ∷ as') [] a b h r = absurd h
  renews_more (c ∷ as') (d ∷ bs) a b h r = (h.0, renews_more as' bs a b h.1 r)

  pub let_renamed : (t : Scope) (g h : List Bind) (e f : Expr) → t ≡ shadowing (binders_of g) s
      → h ≡ map (renamed_bind t) g → f ≡ renamed_expr t e → Let h f ≡ renamed_expr s (Let g e)
  let_renamed t g h e f a b c = (λ i. Let (b i) (c i)) ∙ ap
      (λ u. Let (map (renamed_bind u) g) (renamed_expr u e)) a

  pub case_renamed : (e f : Expr) (xs ys : Alts) → f ≡ renamed_expr s e → ys ≡ renamed_alts s xs
      → Case f ys ≡ renamed_expr s (Case e xs)
  case_renamed e f xs ys a b = λ i. Case (a i) (b i)
