-- Members of a let group and alternatives, each alone and before others.
use Rattle.std.proofs.Common.{◌≡◌, ℕ, suc, ◌+◌, List, [], ◌∷◌, ◌++◌, map, length, refl, sym, ap, subst, ◌∙◌, arith, append_assoc, length-append, rules}
use Rattle.std.proofs.lemmas.List.{append-nil}
use Rattle.core_reader.specs.declared.syntax.Binder.{Binder}
use Rattle.core_reader.specs.declared.syntax.Alt as core-alt
use Rattle.core_reader.specs.Tree as core
use Rattle.core_reader.specs.Machine.{◌⊹◌ as ◌⊹ᶜ◌}
use Rattle.core_reader.proofs.TreeOf as core-tree
use Rattle.lambda_reader.specs.declared.syntax.Atom.TheFolds.{fold_out-Bind}
use Rattle.lambda_reader.specs.declared.syntax.Atom.TheOpen.{Bind-F}
use Rattle.lambda_reader.specs.declared.syntax.Atom.TheOpen as layer
use Rattle.lambda_reader.specs.declared.syntax.App.{App}
use Rattle.lambda_reader.specs.declared.syntax.Bind.{Bind}
use Rattle.lambda_reader.specs.declared.syntax.Bind.TheVariants as bind
use Rattle.lambda_reader.specs.declared.syntax.Expr as code
use Rattle.lambda_reader.specs.declared.syntax.Alt as code-alt
use Rattle.lambda_reader.specs.Tree.{Term, Group, NoBinds, AndValue, AndFunction, Expr, Alts, NoAlts, AndAlt, Function, Program}
use Rattle.lambda_reader.specs.Machine.{◌⊹◌, ◌⊕◌}
use Rattle.lambda_reader.specs.Code.{Application, terms_of, group_of, alts_of, atom_layer, bind_layer, expr_layer, alt_layer, app_layer, member, alternative}
use Rattle.lambda_reader.proofs.TreeOf.{member_of-Value, member_of-Function, alternative_of}
use Rattle.arity_check.specs.Scope.{Scope}
use Rattle.lambda_lift.specs.Headers.{names_of, bound_by, binders_of, within}
use Rattle.lambda_lift.specs.Free.{uses_term, uses_terms, uses_group, uses, uses_alts}
use Rattle.lambda_lift.specs.Abstractions.{in_term, in_terms, in_group, in_expr, in_alts, in_functions, count_term, count_terms, count_group}
use Rattle.lambda_lift.specs.Lifted.{applied, lift_term, lift_terms, lift_group, lift, lift_alts, lifted_bodies}
use Rattle.lambda_lift.specs.Gathered.{first_binder}

pub first_binder_of-Value : (b : Binder) (app : App)
    → first_binder (member (bind.Value b app) NoBinds) ≡ b
first_binder_of-Value b app = ap first_binder (member_of-Value b app NoBinds)

pub first_binder_of-Function : (b : Binder) (params : List Binder) (body : code.Expr)
    → first_binder (member (bind.Function b params body) NoBinds) ≡ b
first_binder_of-Function b params body = ap first_binder (member_of-Function b params body NoBinds)

pub ruleset first_binder_of = (first_binder_of-Value, first_binder_of-Function)

-- ---- one before others

abbrev Layer : Type 0
Layer = Bind-F Term (Group → Group) Expr (Alts → Alts) Application

layer_of : (b : Bind) → (l : Layer) × (member b ≡ bind_layer l)
layer_of b = (
  _,
  fold_out-Bind Term (Group → Group) Expr (Alts → Alts) Application atom_layer bind_layer
      expr_layer alt_layer app_layer b,
)

layer_joins : (l : Layer) (rest : Group) → bind_layer l rest ≡ bind_layer l NoBinds ⊕ rest
layer_joins (layer.Value b app) rest = refl
layer_joins (layer.Function b params body) rest = refl

pub member_joins : (b : Bind) (rest : Group) → member b rest ≡ member b NoBinds ⊕ rest
member_joins b rest = let w = layer_of b in subst (λ m. m rest ≡ m NoBinds ⊕ rest) (sym w.1)
    (layer_joins w.0 rest)

pub alternative_joins : (a : code-alt.Alt) (rest : Alts)
    → alternative a rest ≡ alternative a NoAlts ⊹ rest
alternative_joins a rest = alternative_of a rest ∙ sym
    (ap (λ xs. xs ⊹ rest) (alternative_of a NoAlts))

pub core_joins : (a : core-alt.Alt) (rest : core.Alts)
    → core.alternative a rest ≡ (core.alternative a core.NoAlts) ⊹ᶜ rest
core_joins a rest = core-tree.alternative_of a rest ∙ sym
    (ap (λ xs. xs ⊹ᶜ rest) (core-tree.alternative_of a core.NoAlts))

group_assoc : (g h i : Group) → (g ⊕ h) ⊕ i ≡ g ⊕ (h ⊕ i)
group_assoc NoBinds h i = refl
group_assoc (AndValue b head args rest) h i = ap (AndValue b head args) (group_assoc rest h i)
group_assoc (AndFunction b params body rest) h i = ap (AndFunction b params body)
    (group_assoc rest h i)

alts_assoc : (g h i : Alts) → (g ⊹ h) ⊹ i ≡ g ⊹ (h ⊹ i)
alts_assoc NoAlts h i = refl
alts_assoc (AndAlt p e xs) h i = ap (AndAlt p e) (alts_assoc xs h i)

core_assoc : (g h i : core.Alts) → (g ⊹ᶜ h) ⊹ᶜ i ≡ g ⊹ᶜ (h ⊹ᶜ i)
core_assoc core.NoAlts h i = refl
core_assoc (core.AndAlt p e xs) h i = ap (core.AndAlt p e) (core_assoc xs h i)

-- one more at the end
pub group_more : (bs : List Bind) (b : Bind) → group_of (map member (bs ++ b ∷ [])) ≡ group_of
    (map member bs) ⊕ member b NoBinds
group_more [] b = refl
group_more (x ∷ bs) b =
    ap (member x) (group_more bs b) ∙ member_joins x (group_of (map member bs) ⊕ member b NoBinds)
    ∙ sym (group_assoc (member x NoBinds) (group_of (map member bs)) (member b NoBinds)) ∙ sym
    (ap (λ g. g ⊕ member b NoBinds) (member_joins x (group_of (map member bs))))

pub alts_more : (bs : List code-alt.Alt) (b : code-alt.Alt)
    → alts_of (map alternative (bs ++ b ∷ [])) ≡ alts_of (map alternative bs) ⊹ alternative b NoAlts
alts_more [] b = refl
alts_more (x ∷ bs) b =
    ap (alternative x) (alts_more bs b) ∙ alternative_joins x
    (alts_of (map alternative bs) ⊹ alternative b NoAlts)
    ∙ sym (alts_assoc (alternative x NoAlts) (alts_of (map alternative bs)) (alternative b NoAlts))
    ∙ sym (ap (λ g. g ⊹ alternative b NoAlts)
    (alternative_joins x (alts_of (map alternative bs))))

pub core_more : (bs : List core-alt.Alt) (b : core-alt.Alt)
    → core.alts_of (map core.alternative (bs ++ b ∷ [])) ≡ (core.alts_of (map core.alternative bs))
    ⊹ᶜ (core.alternative b core.NoAlts)
core_more [] b = refl
core_more (x ∷ bs) b =
    ap (core.alternative x) (core_more bs b) ∙ core_joins x
    ((core.alts_of (map core.alternative bs)) ⊹ᶜ (core.alternative b core.NoAlts))
    ∙ sym (core_assoc (core.alternative x core.NoAlts) (core.alts_of (map core.alternative bs))
    (core.alternative b core.NoAlts)) ∙ sym
    (ap (λ g. g ⊹ᶜ (core.alternative b core.NoAlts))
    (core_joins x (core.alts_of (map core.alternative bs))))

-- ---- parts of both

pub binders_joined : (g h : Group) → binders_of (g ⊕ h) ≡ binders_of g ++ binders_of h
binders_joined NoBinds h = refl
binders_joined (AndValue b head args rest) h = ap (λ w. b ∷ w) (binders_joined rest h)
binders_joined (AndFunction b params body rest) h = ap (λ w. b ∷ w) (binders_joined rest h)

pub uses_joined : (inside : List ℕ) (g h : Group) → uses_group inside (g ⊕ h) ≡ uses_group inside g
    ++ uses_group inside h
uses_joined inside NoBinds h = refl
uses_joined inside (AndValue b head args rest) h =
    ap (λ w. uses_term inside head ++ (uses_terms inside args ++ w)) (uses_joined inside rest h)
    ∙ sym (append_assoc (uses_term inside head) (uses_terms inside args ++ uses_group inside rest)
    (uses_group inside h) ∙ ap (λ w. uses_term inside head ++ w)
    (append_assoc (uses_terms inside args) (uses_group inside rest) (uses_group inside h)))
uses_joined inside (AndFunction b params body rest) h =
    ap (λ w. uses (names_of params ++ inside) body ++ w) (uses_joined inside rest h) ∙ sym
    (append_assoc (uses (names_of params ++ inside) body) (uses_group inside rest)
    (uses_group inside h))

pub uses_alts_joined : (inside : List ℕ) (g h : Alts)
    → uses_alts inside (g ⊹ h) ≡ uses_alts inside g ++ uses_alts inside h
uses_alts_joined inside NoAlts h = refl
uses_alts_joined inside (AndAlt p e xs) h =
    ap (λ w. uses (names_of (bound_by p) ++ inside) e ++ w) (uses_alts_joined inside xs h) ∙ sym
    (append_assoc (uses (names_of (bound_by p) ++ inside) e) (uses_alts inside xs)
    (uses_alts inside h))

module _ (c : Program) where
  pub in_joined : (s : Scope) (g h : Group) → in_group c s (g ⊕ h) ≡ in_group c s g
      ++ in_group c s h
  in_joined s NoBinds h = refl
  in_joined s (AndValue b head args rest) h =
      ap (λ w. in_term c s head ++ (in_terms c s args ++ w)) (in_joined s rest h)
      ∙ sym (append_assoc (in_term c s head) (in_terms c s args ++ in_group c s rest)
      (in_group c s h) ∙ ap (λ w. in_term c s head ++ w)
      (append_assoc (in_terms c s args) (in_group c s rest) (in_group c s h)))
  in_joined s (AndFunction b params body rest) h =
      let inner = in_expr c (within c params s) body in
      ap (λ w. record { scope = s; params = params; body = body; at = b.at } ∷ (inner ++ w))
      (in_joined s rest h)
      ∙ sym (ap (λ w. record { scope = s; params = params; body = body; at = b.at } ∷ w)
      (append_assoc inner (in_group c s rest) (in_group c s h)))

  pub in_alts_joined : (s : Scope) (g h : Alts) → in_alts c s (g ⊹ h) ≡ in_alts c s g
      ++ in_alts c s h
  in_alts_joined s NoAlts h = refl
  in_alts_joined s (AndAlt p e xs) h =
      ap (λ w. in_expr c (within c (bound_by p) s) e ++ w) (in_alts_joined s xs h) ∙ sym
      (append_assoc (in_expr c (within c (bound_by p) s) e) (in_alts c s xs) (in_alts c s h))

  pub in_terms_more : (s : Scope) (ts : List Term) (t : Term)
      → in_terms c s (terms_of (ts ++ t ∷ [])) ≡ in_terms c s (terms_of ts) ++ in_term c s t
  in_terms_more s [] t = search rules
  in_terms_more s (x ∷ ts) t = ap (λ w. in_term c s x ++ w) (in_terms_more s ts t) ∙ sym
      (append_assoc (in_term c s x) (in_terms c s (terms_of ts)) (in_term c s t))

  -- ---- what both are lifted to

  pub lift_joined : (s : Scope) (k : ℕ) (g h : Group)
      → lift_group c s k (g ⊕ h) ≡ lift_group c s k g ++ lift_group c s (k + count_group c s g) h
  lift_joined s k NoBinds h = ap (λ n. lift_group c s n h) (omega arith)
  lift_joined s k (AndValue b head args rest) h =
      let n : ℕ = count_term c s head + count_terms c s args in
      let m : (k + n) + count_group c s rest ≡ k + count_group c s (AndValue b head args rest)
      = simp length-append (omega arith) in
      ap (λ w. record {
        binder = b;
        app = record
            { head = lift_term c s k head; args = lift_terms c s (k + count_term c s head) args };
      } ∷
      w)
      (lift_joined s (k + n) rest h ∙ ap (λ i. lift_group c s (k + n) rest ++ lift_group c s i h) m)
  lift_joined s k (AndFunction b params body rest) h =
      let inner : Scope = within c params s in
      let n : ℕ = suc (length (in_expr c inner body)) in
      let m : (k + n) + count_group c s rest ≡ k + count_group c s (AndFunction b params body rest)
      = simp length-append (omega arith) in
      ap (λ w. record { binder = b; app = applied c s k params body b.at } ∷ w)
      (lift_joined s (k + n) rest h ∙ ap (λ i. lift_group c s (k + n) rest ++ lift_group c s i h) m)

  pub lift_alts_joined : (s : Scope) (k : ℕ) (g h : Alts)
      → lift_alts c s k (g ⊹ h) ≡ (lift_alts c s k g) ⊹ᶜ
      (lift_alts c s (k + length (in_alts c s g)) h)
  lift_alts_joined s k NoAlts h = ap (λ n. lift_alts c s n h) (omega arith)
  lift_alts_joined s k (AndAlt p e xs) h =
      let inner : Scope = within c (bound_by p) s in
      let n : ℕ = length (in_expr c inner e) in
      let m : (k + n) + length (in_alts c s xs) ≡ k + length (in_alts c s (AndAlt p e xs))
      = simp length-append (omega arith) in
      ap (λ w. core.AndAlt p (lift c inner k e) w)
      (lift_alts_joined s (k + n) xs h ∙ ap (λ i. (lift_alts c s (k + n) xs) ⊹ᶜ (lift_alts c s i h))
      m)

  -- ---- one more function of a text

  pub in_functions_more : (fs : List Function) (f : Function)
      → in_functions c (fs ++ f ∷ []) ≡ in_functions c fs ++ in_expr c (within c f.params []) f.body
  in_functions_more [] f = append-nil (in_expr c (within c f.params []) f.body)
  in_functions_more (x ∷ fs) f =
      let one = in_expr c (within c x.params []) x.body in
      ap (λ w. one ++ w) (in_functions_more fs f) ∙ sym
      (append_assoc one (in_functions c fs) (in_expr c (within c f.params []) f.body))

  abbrev pub lifted_body : ℕ → Function → core.Function
  lifted_body k f = record
      { name = f.name; at = f.at; params = f.params; body = lift c (within c f.params []) k f.body }

  pub lifted_bodies_more : (k : ℕ) (fs : List Function) (f : Function)
      → lifted_bodies c k (fs ++ f ∷ []) ≡ lifted_bodies c k fs
      ++ lifted_body (k + length (in_functions c fs)) f ∷ []
  lifted_bodies_more k [] f = ap (λ n. lifted_body n f ∷ []) (omega arith)
  lifted_bodies_more k (x ∷ fs) f =
      let n : ℕ = length (in_expr c (within c x.params []) x.body) in
      let m : (k + n) + length (in_functions c fs) ≡ k + length (in_functions c (x ∷ fs))
      = simp length-append (omega arith) in
      ap (λ w. lifted_body k x ∷ w)
      (lifted_bodies_more (k + n) fs f ∙ ap
      (λ i. lifted_bodies c (k + n) fs ++ lifted_body i f ∷ []) m)
