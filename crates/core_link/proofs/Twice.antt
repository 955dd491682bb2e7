-- What becomes of one tree in two ways agrees, where the names agree.
use Rattle.std.proofs.Common.{ℕ, List, [], ◌∷◌, map, sym, ◌∙◌}
use Rattle.std.specs.List.{AllZip}
use Rattle.core_reader.specs.declared.syntax.Binder.{Binder}
use Rattle.core_reader.specs.declared.syntax.Pattern.{Pattern}
use Rattle.core_reader.specs.declared.syntax.Pattern.TheVariants as pattern
use Rattle.core_reader.specs.Tree as tree
use Rattle.core_reader.specs.Tree.{Term, Terms, NoTerms, AndTerm, Application, Bind, Expr, App, Let, Case, Alts, NoAlts, AndAlt, Data, Function}
use Rattle.core_print.specs.Renamed.{RenamedBinder, RenamedTerm, RenamedTerms, RenamedBind, RenamedPattern, RenamedExpr, RenamedAlts, RenamedData, RenamedFunction, behind}

-- lists that go with one list go with one another
pub zip_joined : {X Y Z : Type 0} (P : X → Y → Type 0) (Q : X → Z → Type 0) (R : Y → Z → Type 0)
    → ((x : X) (y : Y) (z : Z) → P x y → Q x z → R y z) → (xs : List X) (ys : List Y) (zs : List Z)
    → AllZip P xs ys → AllZip Q xs zs → AllZip R ys zs
zip_joined P Q R f [] [] [] h g = tt
zip_joined P Q R f [] [] (z ∷ zs) h g = absurd g
zip_joined P Q R f [] (y ∷ ys) zs h g = absurd h
zip_joined P Q R f (x ∷ xs) [] zs h g = absurd h
zip_joined P Q R f (x ∷ xs) (y ∷ ys) [] h g = absurd g
zip_joined P Q R f (x ∷ xs) (y ∷ ys) (z ∷ zs) h g =
    (f x y z h.0 g.0, zip_joined P Q R f xs ys zs h.1 g.1)

-- how names go from one tree to two others, and between these
module _ {S T V : Type 0} (enter1 : List Binder → List Binder → S → S) (B1 C1 : ℕ → ℕ → Type 0)
    (U1 : S → ℕ → ℕ → Type 0)
    (enter2 : List Binder → List Binder → T → T) (B2 C2 : ℕ → ℕ → Type 0) (U2 : T → ℕ → ℕ → Type 0)
    (enter3 : List Binder → List Binder → V → V) (B3 C3 : ℕ → ℕ → Type 0) (U3 : V → ℕ → ℕ → Type 0)
    (Fits : S → T → V → Type 0) where
  pub record Join : Type 0 where
    pub binder : (x y z : ℕ) → B1 x y → B2 x z → B3 y z
    pub con : (x y z : ℕ) → C1 x y → C2 x z → C3 y z
    pub use_of : (s : S) (t : T) (v : V) (x y z : ℕ) → Fits s t v → U1 s x y → U2 t x z → U3 v y z
    pub entered : (s : S) (t : T) (v : V) (bs cs ds : List Binder) → Fits s t v
        → Fits (enter1 bs cs s) (enter2 bs ds t) (enter3 cs ds v)

  module _ (j : Join) where
    mutual
      term_joined : (s : S) (t : T) (v : V) → Fits s t v → (a b d : Term)
          → RenamedTerm enter1 B1 C1 U1 s a b → RenamedTerm enter2 B2 C2 U2 t a d
          → RenamedTerm enter3 B3 C3 U3 v b d
      term_joined s t v f (tree.Name n at) (tree.Name m to) (tree.Name k by) r q
          = j.use_of s t v n m k f r q
      term_joined s t v f (tree.Name n at) (tree.Name m to) d r q = absurd q
      term_joined s t v f (tree.Name n at) b d r q = absurd r
      term_joined s t v f (tree.Con n at) (tree.Con m to) (tree.Con k by) r q = j.con n m k r q
      term_joined s t v f (tree.Con n at) (tree.Con m to) d r q = absurd q
      term_joined s t v f (tree.Con n at) b d r q = absurd r
      term_joined s t v f (tree.Int n at) (tree.Int m to) (tree.Int k by) r q = sym r ∙ q
      term_joined s t v f (tree.Int n at) (tree.Int m to) d r q = absurd q
      term_joined s t v f (tree.Int n at) b d r q = absurd r
      term_joined s t v f (tree.Bracket a xs at) (tree.Bracket b ys to) (tree.Bracket d zs by) r q
          = (term_joined s t v f a b d r.0 q.0, terms_joined s t v f xs ys zs r.1 q.1)
      term_joined s t v f (tree.Bracket a xs at) (tree.Bracket b ys to) d r q = absurd q
      term_joined s t v f (tree.Bracket a xs at) b d r q = absurd r

      terms_joined : (s : S) (t : T) (v : V) → Fits s t v → (as' bs ds : Terms)
          → RenamedTerms enter1 B1 C1 U1 s as' bs → RenamedTerms enter2 B2 C2 U2 t as' ds
          → RenamedTerms enter3 B3 C3 U3 v bs ds
      terms_joined s t v f NoTerms NoTerms NoTerms r q = tt
      terms_joined s t v f NoTerms NoTerms ds r q = absurd q
      terms_joined s t v f NoTerms bs ds r q = absurd r
      terms_joined s t v f (AndTerm a as') (AndTerm b bs) (AndTerm d ds) r q
          = (term_joined s t v f a b d r.0 q.0, terms_joined s t v f as' bs ds r.1 q.1)
      terms_joined s t v f (AndTerm a as') (AndTerm b bs) ds r q = absurd q
      terms_joined s t v f (AndTerm a as') bs ds r q = absurd r

    binders_joined : (bs cs ds : List Binder) → AllZip (RenamedBinder enter1 B1 C1 U1) bs cs
        → AllZip (RenamedBinder enter2 B2 C2 U2) bs ds
        → AllZip (RenamedBinder enter3 B3 C3 U3) cs ds
    binders_joined = zip_joined (RenamedBinder enter1 B1 C1 U1) (RenamedBinder enter2 B2 C2 U2)
        (RenamedBinder enter3 B3 C3 U3) (λ b c d h g. j.binder b.name.0 c.name.0 d.name.0 h g)

    binds_joined : (s : S) (t : T) (v : V) → Fits s t v → (bs cs ds : List Bind)
        → AllZip (RenamedBind enter1 B1 C1 U1 s) bs cs
        → AllZip (RenamedBind enter2 B2 C2 U2 t) bs ds
        → AllZip (RenamedBind enter3 B3 C3 U3 v) cs ds
    binds_joined s t v f = zip_joined (RenamedBind enter1 B1 C1 U1 s)
        (RenamedBind enter2 B2 C2 U2 t) (RenamedBind enter3 B3 C3 U3 v)
        (λ b c d h g. (
          j.binder b.binder.name.0 c.binder.name.0 d.binder.name.0 h.0 g.0,
          (
            term_joined s t v f b.app.head c.app.head d.app.head h.1.0 g.1.0,
            terms_joined s t v f b.app.args c.app.args d.app.args h.1.1 g.1.1,
          ),
        ))

    pattern_joined : (a b d : Pattern) → RenamedPattern enter1 B1 C1 U1 a b
        → RenamedPattern enter2 B2 C2 U2 a d → RenamedPattern enter3 B3 C3 U3 b d
    pattern_joined (pattern.Con c xs) (pattern.Con d ys) (pattern.Con e zs) r q
        = (j.con c.name.0 d.name.0 e.name.0 r.0 q.0, binders_joined xs ys zs r.1 q.1)
    pattern_joined (pattern.Con c xs) (pattern.Con d ys) e r q = absurd q
    pattern_joined (pattern.Con c xs) d e r q = absurd r
    pattern_joined (pattern.Int k at) (pattern.Int l to) (pattern.Int m by) r q = sym r ∙ q
    pattern_joined (pattern.Int k at) (pattern.Int l to) e r q = absurd q
    pattern_joined (pattern.Int k at) d e r q = absurd r
    pattern_joined (pattern.Default x) (pattern.Default y) (pattern.Default z) r q
        = j.binder x.name.0 y.name.0 z.name.0 r q
    pattern_joined (pattern.Default x) (pattern.Default y) e r q = absurd q
    pattern_joined (pattern.Default x) d e r q = absurd r

    behind_joined : (s : S) (t : T) (v : V) → Fits s t v → (a b d : Pattern)
        → RenamedPattern enter1 B1 C1 U1 a b → RenamedPattern enter2 B2 C2 U2 a d
        → Fits (behind enter1 B1 C1 U1 a b s) (behind enter2 B2 C2 U2 a d t)
        (behind enter3 B3 C3 U3 b d v)
    behind_joined s t v f (pattern.Con c xs) (pattern.Con d ys) (pattern.Con e zs) r q
        = j.entered s t v xs ys zs f
    behind_joined s t v f (pattern.Con c xs) (pattern.Con d ys) e r q = absurd q
    behind_joined s t v f (pattern.Con c xs) d e r q = absurd r
    behind_joined s t v f (pattern.Int k at) (pattern.Int l to) (pattern.Int m by) r q = f
    behind_joined s t v f (pattern.Int k at) (pattern.Int l to) e r q = absurd q
    behind_joined s t v f (pattern.Int k at) d e r q = absurd r
    behind_joined s t v f (pattern.Default x) (pattern.Default y) (pattern.Default z) r q
        = j.entered s t v (x ∷ []) (y ∷ []) (z ∷ []) f
    behind_joined s t v f (pattern.Default x) (pattern.Default y) e r q = absurd q
    behind_joined s t v f (pattern.Default x) d e r q = absurd r

    mutual
      expr_joined : (s : S) (t : T) (v : V) → Fits s t v → (a b d : Expr)
          → RenamedExpr enter1 B1 C1 U1 s a b → RenamedExpr enter2 B2 C2 U2 t a d
          → RenamedExpr enter3 B3 C3 U3 v b d
      expr_joined s t v f (App a) (App b) (App d) r q
          = (
            term_joined s t v f a.head b.head d.head r.0 q.0,
            terms_joined s t v f a.args b.args d.args r.1 q.1,
          )
      expr_joined s t v f (App a) (App b) d r q = absurd q
      expr_joined s t v f (App a) b d r q = absurd r
      expr_joined s t v f (Let group a) (Let others b) (Let more d) r q =
          let g = j.entered s t v (map (λ b. b.binder) group) (map (λ b. b.binder) others)
          (map (λ b. b.binder) more) f in (
            binds_joined (enter1 (map (λ b. b.binder) group) (map (λ b. b.binder) others) s)
                (enter2 (map (λ b. b.binder) group) (map (λ b. b.binder) more) t)
                (enter3 (map (λ b. b.binder) others) (map (λ b. b.binder) more) v) g group others
                more r.0 q.0,
            expr_joined (enter1 (map (λ b. b.binder) group) (map (λ b. b.binder) others) s)
                (enter2 (map (λ b. b.binder) group) (map (λ b. b.binder) more) t)
                (enter3 (map (λ b. b.binder) others) (map (λ b. b.binder) more) v) g a b d r.1 q.1,
          )
      expr_joined s t v f (Let group a) (Let others b) d r q = absurd q
      expr_joined s t v f (Let group a) b d r q = absurd r
      expr_joined s t v f (Case a xs) (Case b ys) (Case d zs) r q
          = (expr_joined s t v f a b d r.0 q.0, alts_joined s t v f xs ys zs r.1 q.1)
      expr_joined s t v f (Case a xs) (Case b ys) d r q = absurd q
      expr_joined s t v f (Case a xs) b d r q = absurd r

      alts_joined : (s : S) (t : T) (v : V) → Fits s t v → (as' bs ds : Alts)
          → RenamedAlts enter1 B1 C1 U1 s as' bs → RenamedAlts enter2 B2 C2 U2 t as' ds
          → RenamedAlts enter3 B3 C3 U3 v bs ds
      alts_joined s t v f NoAlts NoAlts NoAlts r q = tt
      alts_joined s t v f NoAlts NoAlts ds r q = absurd q
      alts_joined s t v f NoAlts bs ds r q = absurd r
      alts_joined s t v f (AndAlt a e as') (AndAlt b g bs) (AndAlt d h ds) r q = (
        pattern_joined a b d r.0 q.0,
        expr_joined (behind enter1 B1 C1 U1 a b s) (behind enter2 B2 C2 U2 a d t)
            (behind enter3 B3 C3 U3 b d v) (behind_joined s t v f a b d r.0 q.0) e g h r.1 q.1,
        alts_joined s t v f as' bs ds r.2 q.2,
      )
      alts_joined s t v f (AndAlt a e as') (AndAlt b g bs) ds r q = absurd q
      alts_joined s t v f (AndAlt a e as') bs ds r q = absurd r

    pub data_joined : (a b d : Data) → RenamedData enter1 B1 C1 U1 a b
        → RenamedData enter2 B2 C2 U2 a d → RenamedData enter3 B3 C3 U3 b d
    data_joined a b d r q = (j.con a.name b.name d.name r.0 q.0, sym r.1 ∙ q.1)

    pub function_joined : (F1 F2 F3 : ℕ → ℕ → Type 0) → ((x y z : ℕ) → F1 x y → F2 x z → F3 y z)
        → (s : S) (t : T) (v : V) → Fits s t v → (a b d : Function)
        → RenamedFunction enter1 B1 C1 U1 F1 s a b → RenamedFunction enter2 B2 C2 U2 F2 t a d
        → RenamedFunction enter3 B3 C3 U3 F3 v b d
    function_joined F1 F2 F3 names s t v f a b d r q = (
      names a.name b.name d.name r.0 q.0,
      binders_joined a.params b.params d.params r.1 q.1,
      expr_joined (enter1 a.params b.params s) (enter2 a.params d.params t)
          (enter3 b.params d.params v) (j.entered s t v a.params b.params d.params f) a.body b.body
          d.body r.2 q.2,
    )
