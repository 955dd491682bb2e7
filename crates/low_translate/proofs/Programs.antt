-- The procedures of a program, one after the other.
use Rattle.std.proofs.Common.{◌≡◌, ◌≤◌, ◌<◌, ◌^◌, ℕ, zero, suc, ◌+◌, List, [], ◌∷◌, ◌++◌, map, length, take, drop, get_or, refl, sym, ap, ◌∙◌, subst, arith, append-nil}
use Rattle.std.proofs.lemmas.List.{drop_more, take_more, take_all}
use Rattle.seq.proofs.Lists.{all_push}
use Rattle.grin_syntax.specs.declared.program.Grin.{Grin}
use Rattle.grin_syntax.specs.declared.program.Proc.{Proc}
use Rattle.grin_syntax.specs.Fresh.{past_procs}
use Rattle.grin_syntax.specs.Formed.{AllOf}
use Rattle.grin_syntax.specs.Tree as grin
use Rattle.grin_syntax.specs.Tree.{procedure_of, code_of, program_of}
use Rattle.grin_meaning.specs.Ready.{most_fields, most_value_fields}
use Rattle.low_code.specs.declared.program.LowProc.{LowProc}
use Rattle.low_code.specs.Tree as low
use Rattle.low_translate.specs.Translation.{procedures_code, program_code}
use Rattle.low_translate.specs.Writes.{written_width}
use Rattle.low_translate.specs.Lowered.{CodeRanged, EachProcedureReturns, IsLowered}
use Rattle.low_translate.specs.Emitted.{ProcedureDone}

module _ (w : ℕ) (rs : List ℕ) where
  -- the first f procedures are made
  pub record ProcsSoFar (start next : ℕ) (made : List LowProc) (procs : List Proc) (f : ℕ)
      : Type 0 where
    pub is : map low.procedure_of made ++ procedures_code w rs next (drop f rs)
        (map procedure_of (drop f procs)) ≡ procedures_code w rs start rs (map procedure_of procs)
    pub ranged : AllOf (λ q. CodeRanged (code_of q.body)) (take f procs)

  pub none_yet : (start : ℕ) (procs : List Proc) → ProcsSoFar start start [] procs 0
  none_yet start procs = record {
    is = λ i. procedures_code w rs start (none rs i) (map procedure_of (none procs i));
    ranged
        = subst (AllOf (λ q. CodeRanged (code_of q.body))) (sym (empty procs)) tt;
  }
    where
      none : {A : Type 0} (xs : List A) → drop 0 xs ≡ xs
      none [] = refl
      none (x ∷ xs) = refl

      empty : {A : Type 0} (xs : List A) → take 0 xs ≡ []
      empty [] = refl
      empty (x ∷ xs) = refl

  map_push : (made : List LowProc) (q : LowProc) (rest : List low.Procedure)
      → map low.procedure_of (made ++ q ∷ []) ++ rest ≡ map low.procedure_of made
      ++ (low.procedure_of q ∷ rest)
  map_push [] q rest = refl
  map_push (m ∷ made) q rest = ap (λ l. low.procedure_of m ∷ l) (map_push made q rest)

  pub one_more : (start next next' : ℕ) (made made' : List LowProc) (procs : List Proc) (f r : ℕ)
      (p : Proc) (q : LowProc) → ProcsSoFar start next made procs f → f < length procs
      → f < length rs → r ≡ get_or rs f 0 → p ≡ get_or procs f p
      → ProcedureDone w rs next next' r (procedure_of p) (low.procedure_of q) → made' ≡ made
      ++ q ∷ [] → ProcsSoFar start next' made' procs (f + 1)
  one_more start next next' made made' procs f r p q s kp kr er ep d m = record {
    is = (λ i. map low.procedure_of (m i) ++ procedures_code w rs (d.numbers i) (drop (f + 1) rs)
        (map procedure_of (drop (f + 1) procs)))
        ∙ map_push made q _
        ∙ (λ i. map low.procedure_of made ++
        (d.is i ∷ procedures_code w rs
        (next + Rattle.low_translate.specs.Translation.procedure_numbers w rs r
        (procedure_of p)) (drop (f + 1) rs) (map procedure_of (drop (f + 1) procs))))
        ∙ (λ i. map low.procedure_of made ++ procedures_code w rs next (er i ∷ drop (f + 1) rs)
        (map procedure_of (ep i ∷ drop (f + 1) procs)))
        ∙ (λ i. map low.procedure_of made ++ procedures_code w rs next (sym (drop_more rs f 0 kr) i)
        (map procedure_of (sym (drop_more procs f p kp) i)))
        ∙ s.is;
    ranged = subst (AllOf (λ q. CodeRanged (code_of q.body))) (sym (take_more procs f p kp))
        (all_push (λ q. CodeRanged (code_of q.body)) _ _ s.ranged
        (subst (λ x. CodeRanged (code_of x.body)) ep d.ranged));
  }

  past_all : {A : Type 0} (xs : List A) (i : ℕ) → length xs ≤ i → drop i xs ≡ []
  past_all [] zero le = refl
  past_all [] (suc i) le = refl
  past_all (x ∷ xs) zero le = absurd (omega (arith, le))
  past_all (x ∷ xs) (suc i) le = past_all xs i (omega (arith, le))

  all_mapped : (procs : List Proc) → AllOf (λ q. CodeRanged (code_of q.body)) procs
      → AllOf (λ q. CodeRanged q.body) (map procedure_of procs)
  all_mapped [] h = tt
  all_mapped (p ∷ procs) h = (h.0, all_mapped procs h.1)

  pub all_made : (start next : ℕ) (made : List LowProc) (procs : List Proc) (f : ℕ)
      → ProcsSoFar start next made procs f → length procs ≤ f → length rs ≤ f
      → map low.procedure_of made ≡ procedures_code w rs start rs (map procedure_of procs)
  all_made start next made procs f s kp kr = sym (append-nil (map low.procedure_of made)) ∙
      (λ i. map low.procedure_of made ++ procedures_code w rs next (sym (past_all rs f kr) i)
      (map procedure_of (sym (past_all procs f kp) i))) ∙ s.is

  pub all_ranged : (start next : ℕ) (made : List LowProc) (procs : List Proc) (f : ℕ)
      → ProcsSoFar start next made procs f → length procs ≤ f
      → AllOf (λ q. CodeRanged q.body) (map procedure_of procs)
  all_ranged start next made procs f s kp = all_mapped procs
      (subst (AllOf (λ q. CodeRanged (code_of q.body))) (take_all f procs kp) s.ranged)

pub none_made : (w : ℕ) (rs : List ℕ) (start : ℕ) (made : List LowProc) (procs : List Proc)
    → made ≡ [] → ProcsSoFar w rs start start made procs 0
none_made w rs start made procs e = subst (λ l. ProcsSoFar w rs start start l procs 0) (sym e)
    (none_yet w rs start procs)

pub procs_as : (w : ℕ) (rs rs' : List ℕ) (start next : ℕ) (made : List LowProc) (procs : List Proc)
    (f : ℕ) → rs ≡ rs' → ProcsSoFar w rs start next made procs f
    → ProcsSoFar w rs' start next made procs f
procs_as w rs rs' start next made procs f e s = subst (λ l. ProcsSoFar w l start next made procs f)
    e s

pub each_many : (node : ℕ) (results rs : List ℕ) (qs : List grin.Procedure)
    → EachProcedureReturns node results rs qs → length rs ≡ length qs
each_many node results [] [] h = refl
each_many node results [] (q ∷ qs) h = absurd h
each_many node results (r ∷ rs) [] h = absurd h
each_many node results (r ∷ rs) (q ∷ qs) h = ap suc (each_many node results rs qs h.1)

-- the code that is made
pub code_is : (g : Grin) (rs : List ℕ) (wide w start next f : ℕ) (made : List LowProc)
    (globals : List ℕ) (procs : List Proc) → length rs ≡ length g.procs
    → wide ≡ most_fields g.tags + 1 → w ≡ written_width (program_of g)
    → start ≡ past_procs (map procedure_of g.procs) → globals ≡ map (λ c. c.tag.0) g.globals
    → procs ≡ g.procs → ProcsSoFar w rs start next made procs f → length procs ≤ f
    → record {
      procs = map low.procedure_of made;
      start = g.start.0;
      argument = g.argument;
      globals
          = globals;
      width = wide;
    } ≡ program_code (1 + most_fields g.tags)
    (written_width (program_of g)) rs (past_procs (map procedure_of g.procs)) (program_of g)
code_is g rs wide w start next f made globals procs many ev ew es el ep s le =
    let kr : length rs ≤ f = (let e = ap length ep in omega (arith, many, le, e)) in
    let width : wide ≡ 1 + most_fields g.tags = omega (arith, ev) in
    let is : map low.procedure_of made ≡ procedures_code w rs start rs (map procedure_of procs)
    = all_made w rs start next made procs f s le kr in
    (λ i. record
    { procs = is i; start = g.start.0; argument = g.argument; globals = el i; width = wide })
    ∙ (λ i. record {
      procs = procedures_code (ew i) rs (es i) rs (map procedure_of (ep i));
      start
          = g.start.0;
      argument = g.argument;
      globals = map (λ c. c.tag.0) g.globals;
      width
          = width i;
    })

pub code_ranged : (g : Grin) (rs : List ℕ) (w start next f : ℕ) (made : List LowProc)
    (procs : List Proc) → procs ≡ g.procs → ProcsSoFar w rs start next made procs f
    → length procs ≤ f → AllOf (λ q. CodeRanged q.body) (map procedure_of g.procs)
code_ranged g rs w start next f made procs ep s le = subst
    (λ l. AllOf (λ q. CodeRanged q.body) (map procedure_of l)) ep
    (all_ranged w rs start next made procs f s le)

pub lowered_is : (g : Grin) (l : low.Program) (rs rs' : List ℕ) (node : ℕ) (ps : List Proc)
    → node ≡ most_value_fields g.tags + 1 → ps ≡ g.procs
    → EachProcedureReturns node rs rs (map procedure_of ps) → AllOf (λ r. r ≤ 13) rs
    → length g.tags ≤ 2 ^ 32
    → AllOf (λ q. CodeRanged q.body) (map procedure_of g.procs) → rs' ≡ rs
    → l ≡ program_code (1 + most_fields g.tags) (written_width (program_of g)) rs'
    (past_procs (map procedure_of g.procs)) (program_of g) → IsLowered (program_of g) l
lowered_is g l rs rs' node ps en eps eg few tags ranged same is =
    let node_width : node ≡ 1 + most_value_fields g.tags = omega (arith, en) in
    record {
      results = rs;
      gives = subst (λ k. EachProcedureReturns k rs rs (map procedure_of g.procs)) node_width
          (subst (λ l. EachProcedureReturns node rs rs (map procedure_of l)) eps eg);
      few = few;
      few_tags = tags;
      ranged = ranged;
      is = is ∙ ap
          (λ k. program_code (1 + most_fields g.tags) (written_width (program_of g)) k
          (past_procs (map procedure_of g.procs)) (program_of g)) same;
    }
