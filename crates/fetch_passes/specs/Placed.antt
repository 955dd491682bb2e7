-- Fetched words are used.
use Rattle.std.specs.Prelude.{suc, ◌≡◌, true}
use Rattle.grin_syntax.specs.declared.program.Target.{Target}
use Rattle.grin_syntax.specs.declared.program.Target.TheVariants as to
use Rattle.grin_syntax.specs.Tree.{Code, end, store, bind, Act, leaf, fetch_word, case, nested, Arms, no_arm, arm, Program}
use Rattle.grin_syntax.specs.Formed.{AllOf}
use Rattle.grin_meaning.specs.Ready.{PieceKind, any_kind, EveryBodyIsOfKind}
use Rattle.pass_ground.specs.Uses.{code_uses}

-- no fetch of a word
abbrev pub IsNoWordFetch : Act → Type 0
IsNoWordFetch (leaf (fetch_word a i)) = ⊥
IsNoWordFetch _ = Unit {0}

abbrev pub no_word_fetch_kind : PieceKind
no_word_fetch_kind = record any_kind { operation = IsNoWordFetch }

abbrev pub HasNoWordFetches : Program → Type 0
HasNoWordFetches g = EveryBodyIsOfKind no_word_fetch_kind g.procs

-- a word after the tag that is fetched is used in the block that follows
abbrev pub WordUsed : Act → Target → Code → Type 0
WordUsed (leaf (fetch_word a (suc i))) (to.One x) b = code_uses x.0 b ≡ true
WordUsed _ t b = Unit {0}

unfoldable mutual
  pub ActFetchesUsed : Act → Type 0
  ActFetchesUsed (case v as') = ArmsFetchUsed as'
  ActFetchesUsed (nested b) = CodeFetchesUsed b
  ActFetchesUsed _ = Unit {0}

  pub CodeFetchesUsed : Code → Type 0
  CodeFetchesUsed (end o) = ActFetchesUsed o
  CodeFetchesUsed (store cs b) = CodeFetchesUsed b
  CodeFetchesUsed (bind t o b) = WordUsed o t b × ActFetchesUsed o × CodeFetchesUsed b

  pub ArmsFetchUsed : Arms → Type 0
  ArmsFetchUsed no_arm = Unit {0}
  ArmsFetchUsed (arm s b as') = CodeFetchesUsed b × ArmsFetchUsed as'

-- no word is fetched in vain
abbrev pub FetchesUsed : Program → Type 0
FetchesUsed g = AllOf (λ q. CodeFetchesUsed q.body) g.procs
