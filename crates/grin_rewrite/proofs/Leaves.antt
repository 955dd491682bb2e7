-- Operations without a block, in the code and as trees.
use Rattle.std.proofs.Common.{◌≡◌, sym, ap, ◌∙◌, subst}
use Rattle.std.specs.declared.alloc.Global.{Global}
use Rattle.std.specs.declared.boxed.Box.{Box}
use Rattle.seq.specs.declared.list.Seq.{Seq}
use Rattle.grin_syntax.specs.declared.program.Val.{Val}
use Rattle.grin_syntax.specs.declared.program.Stmt.{Stmt}
use Rattle.grin_syntax.specs.declared.program.Alt.{Alt}
use Rattle.grin_syntax.specs.declared.program.Block.{Block}
use Rattle.grin_syntax.specs.declared.program.Op.{Op, out-Op, roll-Op, roll-out-Op}
use Rattle.grin_syntax.specs.declared.program.Op.TheVariants.{Unit as Unit', Fetch, FetchWord, Update, Eval, Apply, Call, Prim, Read, Write, Case, Nested, Fail, rolls-Unit, rolls-Fetch, rolls-FetchWord, rolls-Update, rolls-Eval, rolls-Apply, rolls-Call, rolls-Prim, rolls-Read, rolls-Write, rolls-Case, rolls-Nested, rolls-Fail}
use Rattle.grin_syntax.specs.declared.program.Op.TheOpen as open'
use Rattle.grin_syntax.specs.Tree.{Act, Leaf, leaf, unit, fetch, fetch_word, update, eval, apply, call, prim, read, write, fail, act_of, IsLeaf}
use Rattle.grin_syntax.proofs.TreeOf.{act_of-Unit, act_of-Fetch, act_of-FetchWord, act_of-Update, act_of-Eval, act_of-Apply, act_of-Call, act_of-Prim, act_of-Read, act_of-Write, act_of-Case, act_of-Nested, act_of-Fail}
use Rattle.grin_rewrite.specs.Rewriting.{rewrite_act}

-- the operation of the code for one of the tree
abbrev pub op_of : Leaf → Op
op_of (unit v) = Unit' v
op_of (fetch w) = Fetch w
op_of (fetch_word w i) = FetchWord w i
op_of (update w v) = Update w v
op_of (eval w) = Eval w
op_of (apply v w) = Apply v w
op_of (call f ws) = Call f ws
op_of (prim p a b) = Prim p a b
op_of read = Read
op_of (write w) = Write w
op_of fail = Fail

-- an operation of the code is that of the tree
pub record LeafSeen (op : Op) : Type 0 where
  pub at : Leaf
  pub is : op ≡ op_of at
  pub tree : act_of op ≡ leaf at

module _ (op : Op) (not_case : (v : Val) (alts : Seq Alt) → op ≡ Case v alts → ⊥)
    (not_nested : (b : Box Block Global) → op ≡ Nested b → ⊥) where
  seen : (l : Leaf) → op_of l ≡ op → act_of (op_of l) ≡ leaf l → LeafSeen op
  seen l e t = record { at = l; is = sym e; tree = ap act_of (sym e) ∙ t }

  layer_seen : (x : open'.Op-F Op Stmt Alt Block) → roll-Op x ≡ op → LeafSeen op
  layer_seen (open'.Unit v) e = seen (unit v) (sym (rolls-Unit v) ∙ e) (act_of-Unit v)
  layer_seen (open'.Fetch w) e = seen (fetch w) (sym (rolls-Fetch w) ∙ e) (act_of-Fetch w)
  layer_seen (open'.FetchWord w i) e = seen (fetch_word w i) (sym (rolls-FetchWord w i) ∙ e)
      (act_of-FetchWord w i)
  layer_seen (open'.Update w v) e = seen (update w v) (sym (rolls-Update w v) ∙ e)
      (act_of-Update w v)
  layer_seen (open'.Eval w) e = seen (eval w) (sym (rolls-Eval w) ∙ e) (act_of-Eval w)
  layer_seen (open'.Apply v w) e = seen (apply v w) (sym (rolls-Apply v w) ∙ e) (act_of-Apply v w)
  layer_seen (open'.Call f ws) e = seen (call f ws) (sym (rolls-Call f ws) ∙ e) (act_of-Call f ws)
  layer_seen (open'.Prim p a b) e = seen (prim p a b) (sym (rolls-Prim p a b) ∙ e)
      (act_of-Prim p a b)
  layer_seen open'.Read e = seen read (sym rolls-Read ∙ e) act_of-Read
  layer_seen (open'.Write w) e = seen (write w) (sym (rolls-Write w) ∙ e) (act_of-Write w)
  layer_seen (open'.Case v alts) e = absurd (not_case v alts (sym e ∙ rolls-Case v alts))
  layer_seen (open'.Nested b) e = absurd (not_nested b (sym e ∙ rolls-Nested b))
  layer_seen open'.Fail e = seen fail (sym rolls-Fail ∙ e) act_of-Fail

  pub other_seen : LeafSeen op
  other_seen = layer_seen (out-Op op) (roll-out-Op op)

  pub other_is_leaf : IsLeaf (act_of op)
  other_is_leaf = subst IsLeaf (sym other_seen.tree) tt

-- an operation without a block is seen
pub leaf_seen : (op : Op) → IsLeaf (act_of op) → LeafSeen op
leaf_seen op h = other_seen op (λ v alts e. subst IsLeaf (ap act_of e ∙ act_of-Case v alts) h)
    (λ b e. subst IsLeaf (ap act_of e ∙ act_of-Nested b) h)

-- it stays where the rule leaves it as it is
pub stays : (rule : Leaf → Act) (op : Op) → IsLeaf (act_of op)
    → ((l : Leaf) → op ≡ op_of l → rule l ≡ leaf l) → act_of op ≡ rewrite_act rule (act_of op)
unfolding rewrite_act
stays rule op h e =
    let s = leaf_seen op h in
    s.tree ∙ sym (e s.at s.is) ∙ ap (rewrite_act rule) (sym s.tree)
