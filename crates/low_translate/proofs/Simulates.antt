-- A block of low code does what the block of GRIN does that it comes from, wherever the calls do.
use Rattle.std.proofs.Common.{◌≡◌, ◌≤◌, ◌<◌, ℕ, suc, ◌+◌, ◌*◌, true, false, List, ◌++◌, length, Option, Some, None, arith}
use Rattle.std.specs.Prelude.{max}
use Rattle.seq.proofs.Truth.{false_not_true}
use Rattle.grin_syntax.specs.Binders.{target_vars, shape_vars, cell_vars, act_vars, code_vars, arms_vars}
use Rattle.grin_syntax.specs.Tree as grin_tree
use Rattle.grin_syntax.specs.Tree.{Act, leaf, call, case, nested, Code, end, store, bind, Arms, no_arm, arm, IsLeaf}
use Rattle.grin_meaning.specs.Values as grin
use Rattle.grin_meaning.specs.Values.{Value}
use Rattle.grin_meaning.specs.Run as grin_run
use Rattle.grin_meaning.specs.Run.{act_by, code_by, arms_by, with_state_seen}
use Rattle.grin_meaning.specs.Ready.{EachAct, EachCode, EachArms, most_fields, most_value_fields, inlined_kind, vectorised_kind}
use Rattle.low_code.specs.declared.program.Operand.{Operand}
use Rattle.low_code.specs.Tree as low_tree
use Rattle.low_code.specs.Values as low
use Rattle.low_code.specs.Run as low_run
use Rattle.low_code.specs.Run.{Calls, code, operands}
use Rattle.low_translate.specs.declared.blocks.Goal.{Goal}
use Rattle.low_translate.specs.Translation.{operands_of, to_join, act_numbers, code_numbers, act_code, end_code, code_code, arms_code}
use Rattle.low_translate.specs.Writes.{cells_write, act_writes, code_writes, arms_write, procs_write, written_width}
use Rattle.low_translate.specs.Lowered.{ActRanged, CodeRanged, ArmsRanged, ActGives, CodeGives, ArmsGive}
use Rattle.low_translate.proofs.Images.{images, words_of_value, world_image, SoundValue}
use Rattle.low_translate.proofs.ScopedOnce.{Scoped, scoped_front, scoped_back, scoped_rest, scoped_apart, scoped_once, scoped_below}
use Rattle.low_translate.proofs.Standings.{Standing, Giving}
use Rattle.low_translate.proofs.Matches as m
use Rattle.low_translate.proofs.Matches.{free, Match, missed, CallsMatch}
use Rattle.low_translate.proofs.PlainRuns as plain
use Rattle.low_translate.proofs.EndRuns as ends
use Rattle.low_translate.proofs.BoundRuns as binds
use Rattle.low_translate.proofs.Choices as choices
use Rattle.seq.specs.Lists.{times}

module _ (g : grin_tree.Program) (rs : List ℕ) (width most first : ℕ) where
  -- what is known of the text of a piece, whose further numbers begin at n
  pub record Piece (Inl Vec Ran : Type 0) (writes : ℕ) (Gives : ℕ → Type 0) (goal : Goal)
      (scope vars : List ℕ) (n : ℕ) : Type 0 where
    pub inlined : Inl
    pub vectorised : Vec
    pub ranged : Ran
    pub few : writes ≤ procs_write g.tags g.procs
    pub gives : Giving g rs width most goal Gives
    pub scoped : Scoped first scope vars
    pub past : first ≤ n

  abbrev pub ActPiece : Goal → List ℕ → ℕ → Act → Type 0
  ActPiece goal scope n o = Piece (EachAct inlined_kind o) (EachAct vectorised_kind o) (ActRanged o)
      (act_writes g.tags o) (λ r. ActGives (1 + most_value_fields g.tags) rs r o) goal scope
      (act_vars o) n

  abbrev pub CodePiece : Goal → List ℕ → ℕ → Code → Type 0
  CodePiece goal scope n b = Piece (EachCode inlined_kind b) (EachCode vectorised_kind b)
      (CodeRanged b) (code_writes g.tags b) (λ r. CodeGives (1 + most_value_fields g.tags) rs r b)
      goal scope (code_vars b) n

  abbrev pub ArmsPiece : Goal → List ℕ → ℕ → Arms → Type 0
  ArmsPiece goal scope n as' = Piece (EachArms inlined_kind as') (EachArms vectorised_kind as')
      (ArmsRanged as') (arms_write g.tags as')
      (λ r. ArmsGive (1 + most_value_fields g.tags) rs r as') goal scope (arms_vars as') n

  module _ (goal : Goal) (scope : List ℕ) (n : ℕ) where
    after_store : (cs : List _) (b : Code) → CodePiece goal scope n (store cs b)
        → CodePiece goal (cell_vars cs ++ scope) n b
    unfolding EachAct ActRanged ActGives act_writes act_vars
    after_store cs b h = record {
      inlined = h.inlined.1;
      vectorised = h.vectorised.1;
      ranged = h.ranged.1;
      few
          = (let m : max (cells_write g.tags cs) (code_writes g.tags b) ≤ procs_write g.tags g.procs
          = h.few in omega (arith, m));
      gives = h.gives;
      scoped
          = scoped_rest first scope (cell_vars cs) (code_vars b) h.scoped;
      past = h.past;
    }

    store_few : (cs : List _) (b : Code) → CodePiece goal scope n (store cs b)
        → cells_write g.tags cs ≤ procs_write g.tags g.procs
    unfolding act_writes
    store_few cs b h = let m : max (cells_write g.tags cs) (code_writes g.tags b) ≤ procs_write
        g.tags g.procs = h.few in omega (arith, m)

    store_scoped : (cs : List _) (b : Code) → CodePiece goal scope n (store cs b)
        → Scoped first scope (cell_vars cs ++ code_vars b)
    unfolding act_vars
    store_scoped cs b h = h.scoped

    bind_scoped : (t : _) (o : Act) (b : Code) → CodePiece goal scope n (bind t o b)
        → Scoped first scope (target_vars t ++ (act_vars o ++ code_vars b))
    unfolding act_vars
    bind_scoped t o b h = h.scoped

    after_bind : (t : _) (o : Act) (b : Code) (n' : ℕ) → n ≤ n'
        → CodePiece goal scope n (bind t o b) → CodePiece goal (target_vars t ++ scope) n' b
    unfolding EachAct ActRanged ActGives act_writes act_vars
    after_bind t o b n' le h = record {
      inlined = h.inlined.2;
      vectorised = h.vectorised.2;
      ranged = h.ranged.1;
      few = (let m : max (act_writes g.tags o) (code_writes g.tags b) ≤ procs_write g.tags g.procs
          = h.few in omega (arith, m));
      gives = h.gives;
      scoped = scoped_back first (target_vars t ++ scope) (act_vars o) (code_vars b)
          (scoped_rest first scope (target_vars t) (act_vars o ++ code_vars b) h.scoped);
      past = let p = h.past in omega (arith, p, le);
    }

    bound_act : (t : _) (o : Act) (b : Code) (k : ℕ) → CodePiece goal scope n (bind t o b)
        → ActPiece (record { words = k; leaves = false }) scope n o
    unfolding EachAct ActRanged ActGives act_writes act_vars
    bound_act t o b k h = record {
      inlined = h.inlined.1;
      vectorised = h.vectorised.1;
      ranged = h.ranged.0;
      few = (let m : max (act_writes g.tags o) (code_writes g.tags b) ≤ procs_write g.tags g.procs
          = h.few in omega (arith, m));
      gives = λ e. absurd (false_not_true e);
      scoped = scoped_front first scope (act_vars o) (code_vars b)
          (scoped_back first scope (target_vars t) (act_vars o ++ code_vars b) h.scoped);
      past = h.past;
    }

    last_act : (o : Act) → CodePiece goal scope n (end o) → ActPiece goal scope n o
    unfolding EachAct ActRanged ActGives act_writes act_vars
    last_act o h = record {
      inlined = h.inlined;
      vectorised = h.vectorised;
      ranged = h.ranged;
      few = h.few;
      gives
          = h.gives;
      scoped = h.scoped;
      past = h.past;
    }

    inner_block : (b : Code) → ActPiece goal scope n (nested b) → CodePiece goal scope n b
    unfolding EachAct ActRanged ActGives act_writes act_vars
    inner_block b h = record {
      inlined = h.inlined.1;
      vectorised = h.vectorised.1;
      ranged = h.ranged;
      few = h.few;
      gives
          = h.gives;
      scoped = h.scoped;
      past = h.past;
    }

    inner_arms : (v : _) (as' : Arms) → ActPiece goal scope n (case v as')
        → ArmsPiece goal scope n as'
    unfolding EachAct ActRanged ActGives act_writes act_vars
    inner_arms v as' h = record {
      inlined = h.inlined.2;
      vectorised = h.vectorised.2;
      ranged = h.ranged.1;
      few
          = h.few;
      gives = h.gives;
      scoped = h.scoped;
      past = h.past;
    }

    first_arm : (s : _) (b : Code) (more : Arms) → ArmsPiece goal scope n (arm s b more)
        → CodePiece goal scope n b
    unfolding EachAct ActRanged ActGives act_writes act_vars
    first_arm s b more h = record {
      inlined = h.inlined.1;
      vectorised = h.vectorised.1;
      ranged = h.ranged.1;
      few = (let m : max (code_writes g.tags b) (arms_write g.tags more) ≤ procs_write g.tags
          g.procs = h.few in omega (arith, m));
      gives = λ e. (h.gives e).0;
      scoped = scoped_front first scope (code_vars b) (arms_vars more)
          (scoped_back first scope (shape_vars s) (code_vars b ++ arms_vars more) h.scoped);
      past = h.past;
    }

    other_arms : (s : _) (b : Code) (more : Arms) (n' : ℕ) → n ≤ n'
        → ArmsPiece goal scope n (arm s b more) → ArmsPiece goal scope n' more
    unfolding EachAct ActRanged ActGives act_writes act_vars
    other_arms s b more n' le h = record {
      inlined = h.inlined.2;
      vectorised = h.vectorised.2;
      ranged = h.ranged.2;
      few = (let m : max (code_writes g.tags b) (arms_write g.tags more) ≤ procs_write g.tags
          g.procs = h.few in omega (arith, m));
      gives = λ e. (h.gives e).1;
      scoped = scoped_back first scope (code_vars b) (arms_vars more)
          (scoped_back first scope (shape_vars s) (code_vars b ++ arms_vars more) h.scoped);
      past = let p = h.past in omega (arith, p, le);
    }

  -- where the block of a join stands
  joining : (k d top : ℕ) → top ≤ d * most → Standing g rs width most
      (λ v. length (words_of_value v) ≤ k) (record { words = k; leaves = false }) d top None
  joining k d top le = record {
    narrow = λ e v p. p;
    given = λ e. absurd (false_not_true e);
    below = λ e. absurd (false_not_true e);
    inside = λ e. le;
    deeper = omega (arith, le);
  }

module _ (g : grin_tree.Program) (p : low_tree.Program) (fw : ℕ → ℕ) (most : ℕ) (rs : List ℕ)
    (first : ℕ) (same_globals : length p.globals ≡ length g.globals) (width : ℕ)
    (wide : width ≡ 1 + most_fields g.tags) (same_width : p.width ≡ width)
    (gcalls : grin_run.Calls) (lcalls : Calls)
    (calls_match : CallsMatch g p fw most rs first same_globals width wide gcalls lcalls) where
  abbrev Matches : (P : Value → Type 0) → ℕ → grin.Answer → low.Answer → Type 0
  Matches = Match g p fw most rs first same_globals width wide

  abbrev pub At : (top : ℕ) (under : Option ℕ) → List ℕ → grin.Env → low.Env → grin.World → ℕ
      → Type 0
  At = m.Here g p fw most rs first same_globals width wide gcalls lcalls

  here : (top : ℕ) (under : Option ℕ) (top' : ℕ) (under' : Option ℕ) (scope : List ℕ)
      (env : grin.Env) (e : low.Env) (w : grin.World) (frames : ℕ)
      → At top under scope env e w frames → At top' under' scope env e w frames
  here top under top' under' scope env e w frames h
      = record { agrees = h.agrees; sound = h.sound; within = h.within }

  here_passing : (top : ℕ) (under : Option ℕ) (scope : List ℕ) (env : grin.Env) (e : low.Env)
      (w : grin.World) (frames : ℕ) → At top under scope env e w frames
      → At top under scope env e (with_state_seen env w) frames
  here_passing top under scope env e w frames h = record {
    agrees = h.agrees;
    sound = record { cells = h.sound.cells; bytes = h.sound.bytes };
    within
        = h.within;
  }

  lies : (o : Act) (d top : ℕ) (under : Option ℕ) → top ≤ d * most
      → plain.Lies g p fw most rs first same_globals width wide gcalls lcalls calls_match top under
      o d
  lies (leaf (call f ws)) d top under le = le
  lies _ d top under le = tt

  abbrev lows : (top : ℕ) (under : Option ℕ) → low.Env → low_tree.Code → low.World → low.Answer
  lows top under e c w = code p fw free lcalls e top under c w

  -- an operation without blocks
  plain_act : (P : Value → Type 0) (k n : ℕ) (xs : List ℕ) (e : low.Env) (c : low_tree.Code)
      (goes : Value → grin.World → grin.Answer) (d top : ℕ) (under : Option ℕ) → top ≤ d * most
      → (scope : List ℕ) (o : Act) → IsLeaf o → ActPiece g rs (written_width g) most first
      (to_join xs) scope n o
      → ((x : ℕ) → 0 < times x scope → times x xs ≡ 0)
      → (env : grin.Env) (w : grin.World) (frames : ℕ) → At top under scope env e w frames
      → m.Goes g p fw most rs first same_globals width wide gcalls lcalls top under P k n xs e c
      goes → binds.Passes g p fw most rs first same_globals width wide gcalls lcalls top under P
      k xs goes
      → Matches P k (grin.then_do (act_by g gcalls true env d o w) goes)
      (lows top under e (act_code (written_width g) rs xs n o c) (world_image width frames w))
  unfolding act_code ActRanged
  plain_act P k n xs e c goes d top under le scope (case v as') pl h apart env w frames at go pass
      = absurd pl
  plain_act P k n xs e c goes d top under le scope (nested b) pl h apart env w frames at go pass
      = absurd pl
  plain_act P k n xs e c goes d top under le scope o pl h apart env w frames at go pass =
      plain.plain_runs g p fw most rs first same_globals width wide gcalls lcalls calls_match top
      under P k n xs e c goes scope env w frames d apart at o pl h.inlined h.vectorised h.ranged
      h.few (lies o d top under le) go (λ v w' sv sw wd lt a. pass v w' sv sw lt a)

  plain_end : (P : Value → Type 0) (goal : Goal) (d top : ℕ) (under : Option ℕ)
      → Standing g rs (written_width g) most P goal d top under → (n : ℕ) (scope : List ℕ) (o : Act)
      → IsLeaf o → ActPiece g rs (written_width g) most first goal scope n o
      → (env : grin.Env) (e : low.Env) (w : grin.World) (frames : ℕ)
      → At top under scope env e w frames
      → Matches P goal.words (act_by g gcalls true env d o w)
      (lows top under e (end_code (written_width g) rs goal n o) (world_image width frames w))
  unfolding act_code ActRanged
  plain_end P goal d top under s n scope (case v as') pl h env e w frames at = absurd pl
  plain_end P goal d top under s n scope (nested b) pl h env e w frames at = absurd pl
  plain_end P goal d top under s n scope o pl h env e w frames at =
      ends.end_runs g p fw most rs first same_globals width wide gcalls lcalls calls_match top under
      P goal d s n h.past scope (λ x lt. h.scoped.below x (omega (arith, lt))) env e w frames at
      o pl h.inlined h.vectorised h.ranged h.few h.gives

  mutual
    unfolding act_by code act_code EachAct ActRanged

    act_runs : (P : Value → Type 0) (k n : ℕ) (xs : List ℕ) (e : low.Env) (c : low_tree.Code)
        (goes : Value → grin.World → grin.Answer) (d top : ℕ) (under : Option ℕ) → top ≤ d * most
        → (scope : List ℕ) (o : Act) → ActPiece g rs (written_width g) most first (to_join xs) scope
        n o
        → ((x : ℕ) → 0 < times x scope → times x xs ≡ 0)
        → (env : grin.Env) (w : grin.World) (frames : ℕ) → At top under scope env e w frames
        → m.Goes g p fw most rs first same_globals width wide gcalls lcalls top under P k n xs e c
        goes → binds.Passes g p fw most rs first same_globals width wide gcalls lcalls top under
        P k xs goes
        → Matches P k (grin.then_do (act_by g gcalls true env d o w) goes)
        (lows top under e (act_code (written_width g) rs xs n o c) (world_image width frames w))
    act_runs P k n xs e c goes d top under le scope (case v as') h apart env w frames at go pass =
        binds.join_goes g p fw most rs first same_globals width wide gcalls lcalls top under P k n
        xs e c goes go pass _ _
        (choices.case_runs g p fw most rs first same_globals width wide gcalls lcalls top None
        (λ u. length (words_of_value u) ≤ length xs) (to_join xs) n d env e w frames scope
        (here top under top None scope env e w frames at) v as' h.vectorised.1 h.ranged.0
        (λ x are sound. arms_runs (λ u. length (words_of_value u) ≤ length xs) (to_join xs) d top
        None (joining g rs (written_width g) most first (length xs) d top le) n scope x
        (operands_of v) as'
        (inner_arms g rs (written_width g) most first (to_join xs) scope n v as' h) env e w
        frames (here top under top None scope env e w frames at) are sound))
    act_runs P k n xs e c goes d top under le scope (nested b) h apart env w frames at go pass =
        binds.join_goes g p fw most rs first same_globals width wide gcalls lcalls top under P k n
        xs e c goes go pass _ _
        (code_runs (λ u. length (words_of_value u) ≤ length xs) (to_join xs) d top None
        (joining g rs (written_width g) most first (length xs) d top le) n scope b
        (inner_block g rs (written_width g) most first (to_join xs) scope n b h) env e w frames
        (here top under top None scope env e w frames at))
    act_runs P k n xs e c goes d top under le scope o h apart env w frames at go pass
        = plain_act P k n xs e c goes d top under le scope o tt h apart env w frames at go pass

    end_runs : (P : Value → Type 0) (goal : Goal) (d top : ℕ) (under : Option ℕ)
        → Standing g rs (written_width g) most P goal d top under
        → (n : ℕ) (scope : List ℕ) (o : Act) → ActPiece g rs (written_width g) most first goal scope
        n o → (env : grin.Env) (e : low.Env) (w : grin.World) (frames : ℕ)
        → At top under scope env e w frames
        → Matches P goal.words (act_by g gcalls true env d o w)
        (lows top under e (end_code (written_width g) rs goal n o) (world_image width frames w))
    end_runs P goal d top under s n scope (case v as') h env e w frames at =
        choices.case_runs g p fw most rs first same_globals width wide gcalls lcalls top under P
        goal n d env e w frames scope at v as' h.vectorised.1 h.ranged.0
        (λ x are sound. arms_runs P goal d top under s n scope x (operands_of v) as'
        (inner_arms g rs (written_width g) most first goal scope n v as' h) env e w frames at
        are sound)
    end_runs P goal d top under s n scope (nested b) h env e w frames at
        = code_runs P goal d top under s n scope b
        (inner_block g rs (written_width g) most first goal scope n b h) env e w frames at
    end_runs P goal d top under s n scope o h env e w frames at
        = plain_end P goal d top under s n scope o tt h env e w frames at

    pub code_runs : (P : Value → Type 0) (goal : Goal) (d top : ℕ) (under : Option ℕ)
        → Standing g rs (written_width g) most P goal d top under
        → (n : ℕ) (scope : List ℕ) (b : Code) → CodePiece g rs (written_width g) most first goal
        scope n b → (env : grin.Env) (e : low.Env) (w : grin.World) (frames : ℕ)
        → At top under scope env e w frames
        → Matches P goal.words (code_by g gcalls true env d b w)
        (lows top under e (code_code (written_width g) rs goal n b)
        (world_image width frames w))
    code_runs P goal d top under s n scope (end o) h env e w frames at
        = end_runs P goal d top under s n scope o
        (last_act g rs (written_width g) most first goal scope n o h) env e w frames at
    code_runs P goal d top under s n scope (store cs b) h env e w frames at =
        binds.store_runs g p fw most rs first same_globals width wide gcalls lcalls top under
        same_width P goal.words cs d b (code_code (written_width g) rs goal n b) scope env e w
        frames at
        (scoped_once first scope (cell_vars cs) (code_vars b)
        (store_scoped g rs (written_width g) most first goal scope n cs b h))
        (scoped_below first scope (cell_vars cs) (code_vars b)
        (store_scoped g rs (written_width g) most first goal scope n cs b h)) h.vectorised.0
        h.ranged.0 (store_few g rs (written_width g) most first goal scope n cs b h)
        (λ env' e' w' at'. code_runs P goal d top under s n (cell_vars cs ++ scope) b
        (after_store g rs (written_width g) most first goal scope n cs b h) env' e' w' frames
        at')
    code_runs P goal d top under s n scope (bind t o b) h env e w frames at =
        act_runs P goal.words n (target_vars t) e
        (code_code (written_width g) rs goal
        (n + act_numbers (written_width g) rs (length (target_vars t)) o) b)
        (binds.after_bound g p fw most rs first same_globals width wide gcalls lcalls top under
        P goal.words n t o h.vectorised.0 scope env d b) (suc d) top under s.deeper scope o
        (bound_act g rs (written_width g) most first goal scope n t o b (length (target_vars t)) h)
        (scoped_apart first scope (target_vars t) (act_vars o ++ code_vars b)
        (bind_scoped g rs (written_width g) most first goal scope n t o b h)) env w frames at
        (binds.bound_goes g p fw most rs first same_globals width wide gcalls lcalls top under P
        goal.words n t o h.vectorised.0 scope env d b e
        (code_code (written_width g) rs goal
        (n + act_numbers (written_width g) rs (length (target_vars t)) o) b) h.past
        (scoped_below first scope (target_vars t) (act_vars o ++ code_vars b)
        (bind_scoped g rs (written_width g) most first goal scope n t o b h)) at.agrees
        (λ env' e' w' frames' at'. code_runs P goal d top under s
        (n + act_numbers (written_width g) rs (length (target_vars t)) o)
        (target_vars t ++ scope) b
        (after_bind g rs (written_width g) most first goal scope n t o b _ (omega arith) h) env'
        e' w' frames' at'))
        (binds.bound_passes g p fw most rs first same_globals width wide gcalls lcalls top under P
        goal.words n t o h.vectorised.0 scope env d b)

    arms_runs : (P : Value → Type 0) (goal : Goal) (d top : ℕ) (under : Option ℕ)
        → Standing g rs (written_width g) most P goal d top under
        → (n : ℕ) (scope : List ℕ) (x : Value) (words : List Operand) (as' : Arms)
        → ArmsPiece g rs (written_width g) most first goal scope n as'
        → (env : grin.Env) (e : low.Env) (w : grin.World) (frames : ℕ)
        → At top under scope env e w frames
        → operands p fw e words ≡ Some (images (words_of_value x)) → SoundValue g x
        → Matches P goal.words (arms_by g gcalls true env d x as' w)
        (low_run.arms p fw free lcalls e top under
        (arms_code (written_width g) rs goal n words as') (world_image width frames w))
    arms_runs P goal d top under s n scope x words no_arm h env e w frames at are sound = missed
    arms_runs P goal d top under s n scope x words (arm t b more) h env e w frames at are sound =
        choices.arm_runs g p fw most rs first same_globals width wide gcalls lcalls top under P goal
        n d env e w frames words x are sound t b more h.vectorised.0 h.ranged.0
        (code_runs P goal d top under s n scope b
        (first_arm g rs (written_width g) most first goal scope n t b more h) env e
        (with_state_seen env w) frames (here_passing top under scope env e w frames at))
        (arms_runs P goal d top under s (n + code_numbers (written_width g) rs goal b) scope x words
        more (other_arms g rs (written_width g) most first goal scope n t b more _ (omega arith)
        h) env e w frames at are sound)
