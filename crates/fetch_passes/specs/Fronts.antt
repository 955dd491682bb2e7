-- A program beside the one with its fetches split: each used word is fetched where its uses say.
use Rattle.std.specs.Prelude.{ℕ, suc, ◌≡◌, ◌⊎◌, true, List, [], ◌∷◌}
use Rattle.grin_syntax.specs.declared.program.VarId.{VarId}
use Rattle.grin_syntax.specs.declared.program.Target.{Target}
use Rattle.grin_syntax.specs.declared.program.Target.TheVariants as to
use Rattle.grin_syntax.specs.Tree.{Code, end, store, bind, Act, leaf, fetch, fetch_word, case, nested, Arms, no_arm, arm, Procedure, Program}
use Rattle.grin_syntax.specs.Formed.{AllOf}
use Rattle.pass_ground.specs.Uses.{code_uses}
use Rattle.fetch_passes.specs.Windows.{outside}
use Rattle.fetch_passes.specs.Names.{DeferredField}
use Rattle.fetch_passes.specs.Waits.{deferred_fields_after}

-- word i is among the words that are fetched first in a block
abbrev pub IsFetchedFirst : ℕ → Code → Type 0
IsFetchedFirst i (bind t (leaf (fetch_word a (suc j))) b) = (i ≡ suc j) ⊎ IsFetchedFirst i b
IsFetchedFirst i b = ⊥

-- the block past those
abbrev pub after_word_fetches : Code → Code
after_word_fetches (bind t (leaf (fetch_word a (suc i))) b) = after_word_fetches b
after_word_fetches b = b

-- ---- a node with the tag t and these words from the i-th on, where the block b follows

-- each that has a use outside the alternatives of the case on t is fetched first in c
abbrev pub OutsideUsesFetchedFirst : (t : ℕ) → Code → ℕ → List VarId → Code → Type 0
OutsideUsesFetchedFirst t b i [] c = Unit {0}
OutsideUsesFetchedFirst t b i (x ∷ xs) c =
    (outside t x.0 b ≡ true → IsFetchedFirst i c) × OutsideUsesFetchedFirst t b (suc i) xs c

-- ---- an operation that goes to a target, where the block b follows

-- of the node that it fetches, in what follows the tag
abbrev pub NodeWordsFetchedFirst : Act → Target → (b c : Code) → Type 0
NodeWordsFetchedFirst (leaf (fetch a)) (to.Vector (x ∷ xs)) b c =
    OutsideUsesFetchedFirst x.0 b 1 xs c
NodeWordsFetchedFirst o t b c = Unit {0}

-- of what waits, an alternative b fetches first, in c, what it uses
abbrev pub DeferredWordsFetched : List DeferredField → (b c : Code) → Type 0
DeferredWordsFetched ps b c = AllOf (λ p. code_uses p.var.0 b ≡ true → IsFetchedFirst p.place c) ps

-- ---- two pieces side by side, where these words wait

unfoldable mutual
  pub ActsFetch : List DeferredField → Act → Act → Type 0
  ActsFetch ps (case v as') (case u bs') = ArmsFetch ps as' bs'
  ActsFetch ps (case v as') o = ⊥
  ActsFetch ps (nested b) (nested c) = CodesFetch [] b c
  ActsFetch ps (nested b) o = ⊥
  ActsFetch ps o o' = Unit {0}

  pub CodesFetch : List DeferredField → Code → Code → Type 0
  CodesFetch ps (end (leaf (fetch a))) c = Unit {0}
  CodesFetch ps (end o) (end o') = ActsFetch ps o o'
  CodesFetch ps (store cs b) (store ds c) = CodesFetch [] b c
  CodesFetch ps (bind t o b) (bind u o' c) =
      ActsFetch ps o o' × NodeWordsFetchedFirst o t b c
      × CodesFetch (deferred_fields_after o t b ps) b (after_word_fetches c)
  CodesFetch ps b c = ⊥

  pub ArmsFetch : List DeferredField → Arms → Arms → Type 0
  ArmsFetch ps no_arm no_arm = Unit {0}
  ArmsFetch ps (arm s b as') (arm r c bs') =
      DeferredWordsFetched ps b c × CodesFetch [] b (after_word_fetches c) × ArmsFetch ps as' bs'
  ArmsFetch ps as' bs' = ⊥

abbrev pub ProcsFetch : List Procedure → List Procedure → Type 0
ProcsFetch [] [] = Unit {0}
ProcsFetch (q ∷ qs) (r ∷ rs) = CodesFetch [] q.body r.body × ProcsFetch qs rs
ProcsFetch qs rs = ⊥

-- h fetches each word that g uses: directly after the tag, or in each alternative that uses it
abbrev pub UsesFetched : (g h : Program) → Type 0
UsesFetched g h = ProcsFetch g.procs h.procs
