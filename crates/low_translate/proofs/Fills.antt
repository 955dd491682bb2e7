-- What words into a new cell do: where a zero is left out, one stands already.
use Rattle.std.proofs.Common.{◌≡◌, ◌≤◌, ◌<◌, ℕ, zero, suc, ◌+◌, Bool, true, false, List, [], ◌∷◌, length, Option, Some, None, slice_get, refl, sym, ap, ◌∙◌, arith}
use Rattle.std.specs.Prelude.{slice_set}
use Rattle.std.proofs.lemmas.Bool.{eqb-true}
use Rattle.seq.proofs.Lists.{get_set, length_set, get_within}
use Rattle.low_code.specs.declared.program.Operand.{Operand}
use Rattle.low_code.specs.declared.program.Operand.TheVariants.{Var, Num, Cell}
use Rattle.low_code.specs.Tree as low_tree
use Rattle.low_code.specs.Tree.{Code, save}
use Rattle.low_code.specs.Values as low
use Rattle.low_code.specs.Values.{Word, Env, World, Room, Answer, and_then}
use Rattle.low_code.specs.Run.{Calls, operand, operands, code, with_word}
use Rattle.low_translate.specs.Translation.{is_number, fill_word, fills}
use Rattle.low_translate.proofs.Images.{zeros, none_some, some_same}
use Rattle.low_translate.proofs.Pieces.{set_same, set_twice, over, saves_run}

-- no word but zeros from place j on
abbrev pub ZerosFrom : ℕ → List Word → Type 0
ZerosFrom j [] = Unit {0}
ZerosFrom zero (w ∷ ws) = (w ≡ low.number 0) × ZerosFrom zero ws
ZerosFrom (suc j) (w ∷ ws) = ZerosFrom j ws

pub all_zeros : (k : ℕ) → ZerosFrom 0 (zeros k)
all_zeros zero = tt
all_zeros (suc k) = (refl, all_zeros k)

zeros_next : (j : ℕ) (ws : List Word) (v : Word) → ZerosFrom j ws
    → ZerosFrom (suc j) (slice_set ws j v)
zeros_next j [] v h = tt
zeros_next zero (w ∷ ws) v h = h.1
zeros_next (suc j) (w ∷ ws) v h = zeros_next j ws v h

zero_there : (j : ℕ) (ws : List Word) → j < length ws → ZerosFrom j ws
    → slice_get ws j ≡ Some (low.number 0)
zero_there j [] lt h = absurd (omega (arith, lt))
zero_there zero (w ∷ ws) lt h = ap Some h.0
zero_there (suc j) (w ∷ ws) lt h = zero_there j ws (omega (arith, lt)) h

module _ (p : low_tree.Program) (fw : ℕ → ℕ) (room : Room) (calls : Calls) (top : ℕ)
    (under : Option ℕ) where
  abbrev does : Env → Code → World → Answer
  does env c w = code p fw room calls env top under c w

  -- the operand of a number
  number_is : (env : Env) (b : Operand) (v : Word) → is_number b 0 ≡ true
      → operand p fw env b ≡ Some v → v ≡ low.number 0
  number_is env (Num k) v e q = sym (some_same q) ∙ ap low.number (eqb-true k 0 e)
  number_is env (Var x) v e q = absurd (let z : false ≡ true = e in cc)
  number_is env (Cell i) v e q = absurd (let z : false ≡ true = e in cc)

  -- one word
  fill_run : (a : Operand) (j : ℕ) (b : Operand) (v : Word) (i : ℕ) (cell : List Word) (env : Env)
      (c : Code) (w : World) → operand p fw env a ≡ Some (low.cell i) → operand p fw env b ≡ Some v
      → slice_get w.cells i ≡ Some cell → j < length cell → ZerosFrom j cell
      → does env (fill_word a j b c) w ≡ does env c (with_word i j v cell w)
  fill_run a j b v i cell env c w h q s lt z = by (is_number b 0) refl
    where
      by : (t : Bool) → is_number b 0 ≡ t → does env (elim t [ true ↦ c | false ↦ save a j b c ]) w
          ≡ does env c (with_word i j v cell w)
      by true e =
          let there : slice_get cell j ≡ Some v = zero_there j cell lt z ∙ ap Some
          (sym (number_is env b v e q)) in
          (λ t. does env c (record w { cells = sym (set_same w.cells i cell s) t }))
          ∙ (λ t. does env c
          (record w { cells = slice_set w.cells i (sym (set_same cell j v there) t) }))
      by false e = saves_run p fw room calls top under a j (b ∷ []) (v ∷ []) i cell env c w h
          (ap (λ o. and_then o (λ x. Some (x ∷ []))) q) s (omega (arith, lt))

  -- words into new cell i, from word j on
  pub fills_run : (a : Operand) (j : ℕ) (bs : List Operand) (vs : List Word) (i : ℕ)
      (cell : List Word) (env : Env) (c : Code) (w : World) → operand p fw env a ≡ Some (low.cell i)
      → operands p fw env bs ≡ Some vs → slice_get w.cells i ≡ Some cell
      → j + length vs ≤ length cell → ZerosFrom j cell
      → does env (fills a j bs c) w ≡ does env c
      (record w { cells = slice_set w.cells i (over j vs cell) })
  fills_run a j [] vs i cell env c w h k s le z =
      (λ n. does env c (record w { cells = sym (set_same w.cells i cell s) n })) ∙ ap
      (λ l. does env c (record w { cells = slice_set w.cells i (over j l cell) })) (some_same k)
  fills_run a j (b ∷ bs) vs i cell env c w h k s le z
      = go (operand p fw env b) refl (operands p fw env bs) refl k
      (λ l cell' next qs t n y. fills_run a (suc j) bs l i cell' env c next h qs t n y)
    where
      go : (o : Option Word) → operand p fw env b ≡ o → (os : Option (List Word))
          → operands p fw env bs ≡ os → and_then o (λ v. and_then os (λ l. Some (v ∷ l))) ≡ Some vs
          → ((l : List Word) (cell' : List Word) (next : World) → operands p fw env bs ≡ Some l
          → slice_get next.cells i ≡ Some cell' → suc j + length l ≤ length cell'
          → ZerosFrom (suc j) cell' → does env (fills a (suc j) bs c) next ≡ does env c
          (record next { cells = slice_set next.cells i (over (suc j) l cell') }))
          → does env (fill_word a j b (fills a (suc j) bs c)) w ≡ does env c
          (record w { cells = slice_set w.cells i (over j vs cell) })
      go None q os qs m rec = absurd (none_some m)
      go (Some v) q None qs m rec = absurd (none_some m)
      go (Some v) q (Some l) qs m rec =
          let e : vs ≡ v ∷ l = sym (some_same m) in
          let n : length vs ≡ suc (length l) = ap length e in
          let next : World = with_word i j v cell w in
          fill_run a j b v i cell env (fills a (suc j) bs c) w h q s (omega (arith, le, n)) z
          ∙ rec l (slice_set cell j v) next qs
          (get_set w.cells i (slice_set cell j v) (get_within w.cells i cell s))
          (omega (arith, le, n, length_set cell j v)) (zeros_next j cell v z)
          ∙ (λ t. does env c
          (record w {
            cells = set_twice w.cells i (slice_set cell j v)
                (over (suc j) l (slice_set cell j v)) t;
          }))
          ∙ (λ t. does env c (record w { cells = slice_set w.cells i (over j (sym e t) cell) }))
