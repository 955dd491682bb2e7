-- The alternatives of a case.
use Rattle.std.proofs.Common.{◌≡◌, ℕ, ◌+◌, Bool, true, false, cond, nat_eq, List, [], ◌∷◌, length, Option, Some, None, refl, sym, subst}
use Rattle.grin_syntax.specs.declared.program.VarId.{VarId}
use Rattle.grin_syntax.specs.declared.program.Val as V
use Rattle.grin_syntax.specs.declared.program.Shape as S
use Rattle.grin_syntax.specs.declared.program.Shape.TheVariants as shape
use Rattle.grin_syntax.specs.Binders.{numbers_of, shape_vars}
use Rattle.grin_syntax.specs.Tree as grin_tree
use Rattle.grin_syntax.specs.Tree.{case, Arms, no_arm, arm, Code}
use Rattle.grin_meaning.specs.Values as grin
use Rattle.grin_meaning.specs.Values.{Datum, number, Node, Value, MatchOutcome, fits, fits_not, unclear, Binding, with_vars, value_of, as_node, fit_of, node_fit, int_fit, number_fit, fields_fit}
use Rattle.grin_meaning.specs.Run as grin_run
use Rattle.grin_meaning.specs.Run.{act_by, code_by, arms_by, with_state_seen}
use Rattle.grin_meaning.specs.Ready.{BindsNothing, NoNodeVar, most_fields}
use Rattle.low_code.specs.declared.program.Operand.{Operand}
use Rattle.low_code.specs.Tree as low_tree
use Rattle.low_code.specs.Values as low
use Rattle.low_code.specs.Values.{need}
use Rattle.low_code.specs.Run as low_run
use Rattle.low_code.specs.Run.{Calls, code, operands}
use Rattle.low_translate.specs.declared.blocks.Goal.{Goal}
use Rattle.low_translate.specs.Translation.{operands_of, code_code, arms_code, code_numbers}
use Rattle.low_translate.specs.Writes.{written_width}
use Rattle.low_translate.specs.Lowered.{ValRanged, TestRanged}
use Rattle.low_translate.proofs.Images.{images, words_of_value, world_image, SoundValue}
use Rattle.low_translate.proofs.Operands.{value_is}
use Rattle.low_translate.proofs.Deciding.{Decides, taken', passed, tests_decide}
use Rattle.low_translate.proofs.Deciding as deciding
use Rattle.low_translate.proofs.Matches as m
use Rattle.low_translate.proofs.Matches.{free, Match, missed}
use Rattle.grin_meaning.proofs.Bindings.{fits_is}

-- ---- patterns without variables

-- they bind nothing
binds_none : (g : grin_tree.Program) (s : S.Shape) (x : Value) (bs : List Binding)
    → BindsNothing (shape_vars s) → fit_of g s x ≡ fits bs → bs ≡ []
binds_none g shape.Else x bs b h = sym (fits_is h)
binds_none g (shape.Int k) x bs b h = go (as_node g x) h
  where
    yes : (c : Bool) → cond c (fits []) fits_not ≡ fits bs → bs ≡ []
    yes true e = sym (fits_is e)
    yes false e = absurd (let z : fits_not ≡ fits bs = e in cc)

    numbers : (ds : List Datum) → number_fit k ds ≡ fits bs → bs ≡ []
    numbers [] e = absurd (let z : unclear ≡ fits bs = e in cc)
    numbers (number i ∷ ds) e = yes _ e
    numbers (grin.tag t ∷ ds) e = absurd (let z : unclear ≡ fits bs = e in cc)
    numbers (grin.cell a ∷ ds) e = absurd (let z : unclear ≡ fits bs = e in cc)

    by : (c : Bool) (n : Node) → cond c (number_fit k n.fields) fits_not ≡ fits bs → bs ≡ []
    by true n e = numbers n.fields e
    by false n e = absurd (let z : fits_not ≡ fits bs = e in cc)

    go : (o : Option Node) → int_fit k o ≡ fits bs → bs ≡ []
    go None e = absurd (let z : unclear ≡ fits bs = e in cc)
    go (Some n) e = by (nat_eq n.tag 0) n e
binds_none g (shape.Node t xs) x bs b h = go (as_node g x) h
  where
    fields : (xs : List VarId) → numbers_of xs ≡ [] → (ds : List Datum) → fields_fit xs ds ≡ fits bs
        → bs ≡ []
    fields [] q ds e = sym (fits_is e)
    fields (y ∷ ys) q ds e = absurd (let z : y.0 ∷ numbers_of ys ≡ [] = q in cc)

    by : (c : Bool) (n : Node) → cond c (fields_fit xs n.fields) fits_not ≡ fits bs → bs ≡ []
    by true n e = fields xs b n.fields e
    by false n e = absurd (let z : fits_not ≡ fits bs = e in cc)

    go : (o : Option Node) → node_fit t.0 xs o ≡ fits bs → bs ≡ []
    go None e = absurd (let z : unclear ≡ fits bs = e in cc)
    go (Some n) e = by (nat_eq n.tag t.0) n e

module _ (g : grin_tree.Program) (p : low_tree.Program) (fw : ℕ → ℕ) (most : ℕ) (rs : List ℕ)
    (first : ℕ) (same_globals : length p.globals ≡ length g.globals) (width : ℕ)
    (wide : width ≡ 1 + most_fields g.tags)
    (gcalls : grin_run.Calls) (lcalls : Calls) (top : ℕ) (under : Option ℕ) where
  abbrev does : low.Env → low_tree.Code → low.World → low.Answer
  does e c w = code p fw free lcalls e top under c w

  abbrev chooses : low.Env → low_tree.Arms → low.World → low.Answer
  chooses e as' w = low_run.arms p fw free lcalls e top under as' w

  abbrev Matches : (P : Value → Type 0) → ℕ → grin.Answer → low.Answer → Type 0
  Matches = Match g p fw most rs first same_globals width wide

  abbrev At : List ℕ → grin.Env → low.Env → grin.World → ℕ → Type 0
  At = m.Here g p fw most rs first same_globals width wide gcalls lcalls top under

  module _ (P : Value → Type 0) (goal : Goal) (n d : ℕ) (env : grin.Env) (e : low.Env)
      (w : grin.World) (frames : ℕ) where
    -- an alternative whose pattern binds nothing
    abbrev goes_into : Code → List Binding → grin.Answer
    goes_into b bs = code_by g gcalls true (with_vars bs env) d b
        (with_state_seen (with_vars bs env) w)

    decided : (k : ℕ) (f : MatchOutcome) (o : Option Bool) → Decides f o
        → (b : Code) (other : grin.Answer) (l l' : low.Answer)
        → Matches P k (code_by g gcalls true env d b (with_state_seen env w)) l
        → Matches P k other l'
        → Matches P k (grin_run.choose f w (goes_into b) other)
        (need o (world_image width frames w) (λ yes. elim yes [ true ↦ l | false ↦ l' ]))
    decided k _ _ taken' b other l l' h h' = h
    decided k _ _ passed b other l l' h h' = h'
    decided k _ _ deciding.free b other l l' h h' = missed

    module _ (words : List Operand) (x : Value)
        (are : operands p fw e words ≡ Some (images (words_of_value x))) (sound : SoundValue g x)
      where
        pub arm_runs : (s : S.Shape) (b : Code) (more : Arms) → BindsNothing (shape_vars s)
            → TestRanged s more
            → Matches P goal.words (code_by g gcalls true env d b (with_state_seen env w))
            (does e (code_code (written_width g) rs goal n b) (world_image width frames w))
            → Matches P goal.words (arms_by g gcalls true env d x more w)
            (chooses e
            (arms_code (written_width g) rs goal (n + code_numbers (written_width g) rs goal b)
            words more) (world_image width frames w))
            → Matches P goal.words (arms_by g gcalls true env d x (arm s b more) w)
            (chooses e (arms_code (written_width g) rs goal n words (arm s b more))
            (world_image width frames w))
        unfolding arms_by code arms_code
        arm_runs s b no_arm none r h h' = by (fit_of g s x) refl
          where
            by : (f : MatchOutcome) → fit_of g s x ≡ f
                → Matches P goal.words (grin_run.choose f w (goes_into b) (grin.stops grin.missing w))
                (does e (code_code (written_width g) rs goal n b) (world_image width frames w))
            by (fits bs) q = subst
                (λ l. Matches P goal.words (goes_into b l)
                (does e (code_code (written_width g) rs goal n b) (world_image width frames w)))
                (sym (binds_none g s x bs none q)) h
            by fits_not q = missed
            by unclear q = missed
        arm_runs s b (arm s' b' more) none r h h' = decided goal.words _ _
            (tests_decide p fw e g words x s are sound none r) b _ _ _ h h'

    pub case_runs : (scope : List ℕ) → At scope env e w frames → (v : V.Val) (as' : Arms)
        → NoNodeVar v → ValRanged v
        → ((x : Value) → operands p fw e (operands_of v) ≡ Some (images (words_of_value x))
        → SoundValue g x → Matches P goal.words (arms_by g gcalls true env d x as' w)
        (chooses e (arms_code (written_width g) rs goal n (operands_of v) as')
        (world_image width frames w)))
        → Matches P goal.words (act_by g gcalls true env d (case v as') w)
        (does e (low_tree.choose (arms_code (written_width g) rs goal n (operands_of v) as'))
        (world_image width frames w))
    unfolding arms_by code
    case_runs scope h v as' nn r rest = by (value_of g env v) refl
      where
        by : (o : Option Value) → value_of g env v ≡ o
            → Matches P goal.words (grin.need o w (λ x. arms_by g gcalls true env d x as' w))
            (chooses e (arms_code (written_width g) rs goal n (operands_of v) as')
            (world_image width frames w))
        by None q = missed
        by (Some x) q = let u = value_is g p fw same_globals first scope env e h.agrees v x q nn r
            in rest x u.words.are u.sound
