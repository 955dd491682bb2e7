-- The lists of tags, global cells and procedures grow by one function or by what waits.
use Rattle.std.proofs.Common.{◌≡◌, ℕ, zero, suc, ◌+◌, ◌<◌, ◌≤◌, Bool, cond, nat_eq, List, [], ◌∷◌, ◌++◌, map, length, drop, Some, None, slice_get, codes, refl, sym, ap, ◌∙◌, arith, append_assoc, append-nil}
use Rattle.std.proofs.lemmas.List.{map-append}
use Rattle.seq.proofs.Lists.{drop_past}
use Rattle.arity_check.specs.Program.{Program, Function}
use Rattle.core_meaning.specs.Evaluation.{params, params_of, global}
use Rattle.grin_syntax.specs.declared.program.Tag.{Tag}
use Rattle.grin_syntax.specs.declared.program.GlobalCell.{GlobalCell}
use Rattle.grin_syntax.specs.declared.program.Grin.{Grin}
use Rattle.grin_syntax.specs.declared.program.Proc.{Proc}
use Rattle.grin_syntax.specs.Tree.{Procedure, procedure_of, program_of}
use Rattle.grin_translate.specs.declared.tags.Delay.{Delay}
use Rattle.grin_translate.specs.declared.tags.Delay.TheVariants.{Calls}
use Rattle.grin_translate.specs.declared.tags.Kind.{Kind}
use Rattle.grin_translate.specs.declared.tags.Kind.TheVariants.{Number, Constructor, Waits, Lacks}
use Rattle.grin_translate.specs.Tags.{parts, function_parts, kinds, delays, takes_input, tag, tag_of, fun_name, delay_name, delay_params}
use Rattle.grin_translate.specs.Translation.{global_cells, procedure, delay_body, span, spans, delayed_procs, rest, print, print_body, tr}
use Rattle.grin_translate.specs.Pieces.{shared_of, start_if}
use Rattle.seq.specs.Lists.{numbers_from}

record FunctionAt (fs : List Function) (f : ℕ) : Type 0 where
  function : Function
  is : slice_get fs f ≡ Some function
  others : drop f fs ≡ function ∷ drop (f + 1) fs

function_at : (fs : List Function) (f : ℕ) → f < length fs → FunctionAt fs f
function_at [] f lt = absurd (omega (arith, lt))
function_at (g ∷ gs) zero lt = record { function = g; is = refl; others = refl }
function_at (g ∷ gs) (suc f) lt =
    let r = function_at gs f (omega (arith, lt)) in
    let e : suc f + 1 ≡ suc (f + 1) = omega arith in
    record {
      function = r.function;
      is = r.is;
      others
          = r.others ∙ ap (λ k. r.function ∷ drop k (g ∷ gs)) (sym e);
    }

map_of_map : {A B C : Type 0} (f : B → C) (g : A → B) (xs : List A)
    → map f (map g xs) ≡ map (λ x. f (g x)) xs
map_of_map f g [] = refl
map_of_map f g (x ∷ xs) = ap (λ ys. f (g x) ∷ ys) (map_of_map f g xs)

module _ (p : Program) where
  T : Kind → Tag
  T = tag_of p

  -- ---- tags of functions that lack arguments

  pub part_more : (f missing less : ℕ) (made pushed : List Tag) (t : Tag) → missing ≡ suc less
      → pushed ≡ made ++ t ∷ [] → t ≡ tag_of p (Lacks f missing)
      → pushed ++ map (tag_of p) (function_parts f less) ≡ made
      ++ map (tag_of p) (function_parts f missing)
  part_more f missing less made pushed t e g h =
      (λ z. (g z) ++ map (tag_of p) (function_parts f less))
      ∙ append_assoc made (t ∷ []) (map (tag_of p) (function_parts f less))
      ∙ ap (λ x. made ++ (x ∷ map (tag_of p) (function_parts f less)))
      (h ∙ ap (λ k. tag_of p (Lacks f k)) e)
      ∙ ap (λ k. made ++ map (tag_of p) (function_parts f k)) (sym e)

  pub part_end : (f missing : ℕ) (made whole : List Tag) → missing ≡ 0 → made
      ++ map (tag_of p) (function_parts f missing) ≡ whole → made ≡ whole
  part_end f missing made whole z w = sym (append-nil made) ∙ ap
      (λ k. made ++ map (tag_of p) (function_parts f k)) (sym z) ∙ w

  parts_more : (f : ℕ) → f < length p.funs → parts (drop f p.funs) f ≡ function_parts f (params p f)
      ++ parts (drop (f + 1) p.funs) (f + 1)
  parts_more f lt =
      let r = function_at p.funs f lt in
      let e : suc f ≡ f + 1 = omega arith in
      ap (λ gs. parts gs f) r.others
      ∙ ap (λ k. function_parts f k ++ parts (drop (f + 1) p.funs) (suc f))
      (sym (ap (params_of p) r.is))
      ∙ ap (λ k. function_parts f (params p f) ++ parts (drop (f + 1) p.funs) k) e

  pub parts_next : (f : ℕ) (made more whole : List Tag) → f < length p.funs → more ≡ made
      ++ map (tag_of p) (function_parts f (params p f)) → made
      ++ map (tag_of p) (parts (drop f p.funs) f) ≡ whole
      → more ++ map (tag_of p) (parts (drop (f + 1) p.funs) (f + 1)) ≡ whole
  parts_next f made more whole lt e w =
      ap (λ xs. xs ++ map (tag_of p) (parts (drop (f + 1) p.funs) (f + 1))) e
      ∙ append_assoc made (map (tag_of p) (function_parts f (params p f)))
      (map (tag_of p) (parts (drop (f + 1) p.funs) (f + 1)))
      ∙ ap (λ xs. made ++ xs)
      (sym (map-append (tag_of p) (function_parts f (params p f))
      (parts (drop (f + 1) p.funs) (f + 1))) ∙ ap (map (tag_of p)) (sym (parts_more f lt)))
      ∙ w

  pub parts_end : (f : ℕ) (made whole : List Tag) → length p.funs ≤ f → made
      ++ map (tag_of p) (parts (drop f p.funs) f) ≡ whole → made ≡ whole
  parts_end f made whole le w = sym (append-nil made) ∙ ap
      (λ gs. made ++ map (tag_of p) (parts gs f)) (sym (drop_past p.funs f le)) ∙ w

  -- all tags, from their groups
  pub tags_made : (nc : ℕ) (ds : List Delay) (number : Tag) (a b c d : List Tag)
      → nc ≡ length p.cons → ds ≡ delays p → number ≡ tag_of p Number → a ≡ number ∷ []
      → b ≡ a ++ map (λ c. tag_of p (Constructor c)) (numbers_from 0 nc) → c ≡ b
      ++ map (λ d. tag_of p (Waits d)) ds → d ≡ c ++ map (tag_of p) (parts p.funs 0)
      → d ≡ map (tag_of p) (kinds p)
  unfolding kinds
  tags_made nc ds number a b c d en ed e0 ea eb ec e =
      let cs : List Kind = map Constructor (numbers_from 0 (length p.cons)) in
      let ws : List Kind = map Waits (delays p) in
      let ps : List Kind = parts p.funs 0 in
      let first : a ≡ map (tag_of p) (Number ∷ []) = ea ∙ ap (λ t. t ∷ []) e0 in
      let second : b ≡ map (tag_of p) (Number ∷ []) ++ map (tag_of p) cs
      = eb ∙ (λ z. first z ++
      (ap (λ k. map (λ c. tag_of p (Constructor c)) (numbers_from 0 k)) en ∙ sym
      (map_of_map (tag_of p) Constructor (numbers_from 0 (length p.cons)))) z) in
      let third : c ≡ (map (tag_of p) (Number ∷ []) ++ map (tag_of p) cs) ++ map (tag_of p) ws
      = ec ∙ (λ z. second z ++
      (ap (map (λ d. tag_of p (Waits d))) ed ∙ sym (map_of_map (tag_of p) Waits (delays p))) z)
      in
      e ∙ ap (λ xs. xs ++ map (tag_of p) ps) third
      ∙ append_assoc (map (tag_of p) (Number ∷ []) ++ map (tag_of p) cs) (map (tag_of p) ws)
      (map (tag_of p) ps)
      ∙ append_assoc (map (tag_of p) (Number ∷ [])) (map (tag_of p) cs)
      (map (tag_of p) ws ++ map (tag_of p) ps)
      ∙ ap (λ xs. map (tag_of p) (Number ∷ []) ++ (map (tag_of p) cs ++ xs))
      (sym (map-append (tag_of p) ws ps))
      ∙ ap (λ xs. map (tag_of p) (Number ∷ []) ++ xs) (sym (map-append (tag_of p) cs (ws ++ ps)))

  -- ---- global cells

  shared_more : (f : ℕ) → f < length p.funs → global_cells p (drop f p.funs) f ≡ shared_of p f
      ++ global_cells p (drop (f + 1) p.funs) (f + 1)
  shared_more f lt =
      let r = function_at p.funs f lt in
      let e : suc f ≡ f + 1 = omega arith in
      ap (λ gs. global_cells p gs f) r.others
      ∙ (λ z. cond (nat_eq (params_of p (sym r.is z)) 0)
      (record {
        name = fun_name (sym r.is z);
        site = record { 0 = f };
        tag
            = tag p (Waits (Calls f));
      } ∷ []) [] ++ global_cells p (drop (f + 1) p.funs) (e z))

  pub cells_more : (f : ℕ) (made more whole : List GlobalCell) → f < length p.funs → more ≡ made
      ++ shared_of p f → made ++ global_cells p (drop f p.funs) f ≡ whole → more
      ++ global_cells p (drop (f + 1) p.funs) (f + 1) ≡ whole
  cells_more f made more whole lt e w =
      ap (λ xs. xs ++ global_cells p (drop (f + 1) p.funs) (f + 1)) e
      ∙ append_assoc made (shared_of p f) (global_cells p (drop (f + 1) p.funs) (f + 1))
      ∙ ap (λ xs. made ++ xs) (sym (shared_more f lt))
      ∙ w

  pub cells_end : (f : ℕ) (made whole : List GlobalCell) → length p.funs ≤ f → made
      ++ global_cells p (drop f p.funs) f ≡ whole → made ≡ whole
  cells_end f made whole le w = sym (append-nil made) ∙ ap (λ gs. made ++ global_cells p gs f)
      (sym (drop_past p.funs f le)) ∙ w

  -- ---- procedures

  waiting : ℕ → Delay → Procedure
  waiting base d = procedure p base (delay_name p d) (delay_params p d) (delay_body p base d)

  pub procs_more : (i base next : ℕ) (ds : List Delay) (d : Delay) (made pushed : List Proc)
      (q : Proc) (whole : List Procedure) → drop i ds ≡ d ∷ drop (i + 1) ds → pushed ≡ made
      ++ q ∷ []
      → procedure_of q ≡ procedure p base (delay_name p d) (delay_params p d) (delay_body p base d)
      → next ≡ base + span p d → map procedure_of made
      ++ delayed_procs p base (drop i ds) ≡ whole
      → map procedure_of pushed ++ delayed_procs p next (drop (i + 1) ds) ≡ whole
  procs_more i base next ds d made pushed q whole e g h n w =
      ap (λ qs. map procedure_of qs ++ delayed_procs p next (drop (i + 1) ds)) g
      ∙ ap (λ qs. qs ++ delayed_procs p next (drop (i + 1) ds))
      (map-append procedure_of made (q ∷ []))
      ∙ append_assoc (map procedure_of made) (procedure_of q ∷ [])
      (delayed_procs p next (drop (i + 1) ds))
      ∙ (λ z. map procedure_of made ++ (h z ∷ delayed_procs p (n z) (drop (i + 1) ds)))
      ∙ ap (λ xs. map procedure_of made ++ delayed_procs p base xs) (sym e)
      ∙ w

  pub spans_more : (i base next : ℕ) (ds : List Delay) (d : Delay) (whole : ℕ)
      → drop i ds ≡ d ∷ drop (i + 1) ds → next ≡ base + span p d
      → base + spans p (drop i ds) ≡ whole → next + spans p (drop (i + 1) ds) ≡ whole
  spans_more i base next ds d whole e n w = let f = ap (spans p) e in omega (arith, f, n, w)

  pub procs_end : (i base : ℕ) (ds : List Delay) (made : List Proc) (whole : List Procedure)
      → length ds ≤ i → map procedure_of made ++ delayed_procs p base (drop i ds) ≡ whole
      → map procedure_of made ≡ whole
  procs_end i base ds made whole le w = sym (append-nil (map procedure_of made)) ∙ ap
      (λ xs. map procedure_of made ++ delayed_procs p base xs) (sym (drop_past ds i le)) ∙ w

  pub spans_end : (i base : ℕ) (ds : List Delay) (whole : ℕ) → length ds ≤ i
      → base + spans p (drop i ds) ≡ whole → base ≡ whole
  spans_end i base ds whole le w = let f = ap (spans p) (drop_past ds i le) in omega (arith, f, w)

  pub procs_made : (base : ℕ) (made pushed : List Proc) (q : Proc)
      → map procedure_of made ≡ delayed_procs p (length p.funs) (delays p) → base ≡ rest p
      → pushed ≡ made ++ q ∷ []
      → procedure_of q ≡ procedure p base (codes "@print") 1 (print_body p base)
      → map procedure_of pushed ++ start_if p base ≡ (tr p).procs
  procs_made base made pushed q e b g h =
      ap (λ qs. map procedure_of qs ++ start_if p base) g
      ∙ ap (λ qs. qs ++ start_if p base) (map-append procedure_of made (q ∷ []))
      ∙ append_assoc (map procedure_of made) (procedure_of q ∷ []) (start_if p base)
      ∙ (λ z. (e z) ++
      ((h ∙ (λ y. procedure p (b y) (codes "@print") 1 (print_body p (b y)))) z ∷ start_if p
      (b z)))

  -- ---- the program

  pub program_made : (g : Grin) (reads : Bool) → takes_input p ≡ reads
      → g.tags ≡ map (tag_of p) (kinds p) → g.globals ≡ global_cells p p.funs 0
      → map procedure_of g.procs ≡ (tr p).procs
      → g.start ≡ cond reads (record { 0 = suc (length (delays p)) }) (print p)
      → g.argument ≡ cond reads None (Some (global p p.main)) → program_of g ≡ tr p
  program_made g reads r t c q s a = λ z. record {
    tags = t z;
    globals = c z;
    procs = q z;
    start = (s ∙ ap (λ b. cond b (record { 0 = suc (length (delays p)) }) (print p)) (sym r)) z;
    argument = (a ∙ ap (λ b. cond b None (Some (global p p.main))) (sym r)) z;
  }
