-- Statements that need x1, where the return address is in the frame or goes there meanwhile.
use Rattle.std.proofs.Common.{◌≡◌, ℕ, ◌+◌, ◌*◌, List, ◌∷◌, ◌++◌, Bool, true, false, Some}
use Rattle.std.specs.Prelude.{Option}
use Rattle.parallel_move.specs.declared.Spot.{Spot}
use Rattle.low_code.specs.declared.program.Operand.{Operand}
use Rattle.low_code.specs.Tree.{Code, put, get, call, Procedure, Program}
use Rattle.low_code.specs.Formed.{variables}
use Rattle.low_code.specs.Values.{Word, Env, World, with_var}
use Rattle.low_code.specs.Run.{Calls}
use Rattle.register_alloc.specs.Fits.{slots_of}
use Rattle.register_alloc.specs.Assignment.{Assignment, place_of, saves_at, words_at}
use Rattle.rv32_items.specs.declared.Item.{Item}
use Rattle.rv32_items.specs.Course.{Layout, address_from}
use Rattle.rv32_select.specs.declared.source.Continuation.{Continuation}
use Rattle.rv32_select.specs.Emit.{plain, put_code, get_code, take_link}
use Rattle.rv32_select.specs.IsSelected.{heap_end, source, call_items, Then, Emits}
use Rattle.rv32_select.proofs.Straight.{Data}
use Rattle.rv32_select.proofs.PlaceFacts.{ProcedureFine, Setting}
use Rattle.rv32_select.proofs.BlockFacts.{Block, Opened, Simulates, CallsSimulated}
use Rattle.rv32_select.proofs.ByteStatements.{put_simulated, get_simulated}
use Rattle.rv32_select.proofs.CallStatement.{CallEmits, call_statement}
use Rattle.rv32_select.proofs.Linked.{link_aside, link_back}

module _ (l : Program) (a : Assignment) (cells stack : ℕ) (lay : Layout) (items : List Item)
    (begins : List ℕ) (s : Setting l a cells stack lay items begins) (calls_n : Calls) (n : ℕ)
    (f : ℕ) (q : Procedure) (pf : ProcedureFine l a f q) where
  -- a block whose items are said otherwise
  pub said : (framed : Bool) (j m : ℕ) (outer : List ℕ) (d0 : Data) (u : ℕ) (here : Bool)
      (E E' : Type 0) (c : Code) (to : List Spot) (way : Continuation) (Must : ℕ → Word → Type 0)
      (k : ℕ) (block : List Item) (p : ℕ) (scope later : List ℕ) (env : Env) (top : ℕ)
      (under : Option ℕ) (d : Data) (w : World)
      → E' → Opened l a cells stack lay items begins f q framed pf.slots j m outer d0 u n here E c
      to way Must k block p scope later env top under d w
      → Opened l a cells stack lay items begins f q framed pf.slots j m outer d0 u n here E' c to
      way Must k block p scope later env top under d w
  said framed j m outer d0 u here E E' c to way Must k block p scope later env top under d w e b
      = record {
        emits = e;
        stands = b.stands;
        ready = b.ready;
        above = b.above;
        fine = b.fine;
        scoped = b.scoped;
        owned = b.owned;
        must = b.must;
        clear = b.clear;
        to_own = b.to_own;
        to_differ = b.to_differ;
        in_registers = b.in_registers;
        stood = b.stood;
        base = b.base;
        left = b.left;
        top_is = b.top_is;
        under_is = b.under_is;
      }

  pub put_round : (framed : Bool) (j m : ℕ) (outer : List ℕ) (d0 : Data) (u : ℕ) (o : Operand)
      (c : Code) (to : List Spot) (way : Continuation) (Must : ℕ → Word → Type 0) (k k' : ℕ)
      (block : List Item) (p : ℕ) (scope later : List ℕ) (env : Env) (top : ℕ) (under : Option ℕ)
      (d : Data) (w : World)
      → Block l a cells stack lay items begins f q framed pf.slots j m outer d0 u n (put o c) to way
      Must k k' block p scope later env top under d w
      → ((w' : World) (rest : List Item) (p' : ℕ) (d' : Data)
      → Block l a cells stack lay items begins f q framed pf.slots j m outer d0 u n c to way
      Must k k' rest p' scope later env top under d' w'
      → Simulates l a cells stack lay items begins f q framed pf.slots j m outer d0 u n calls_n c to
      way Must p' env top under d' w')
      → Simulates l a cells stack lay items begins f q framed pf.slots j m outer d0 u n calls_n
      (put o c) to way Must p env top under d w
  put_round true j m outer d0 u o c to way Must k k' block p scope later env top under d w b more =
      put_simulated l a cells stack lay items begins s calls_n n f q pf true j m outer d0 u
      (Emits l a cells stack (words_at a f) (slots_of (place_of a) (variables q)) true to way c
      k k') o c to way Must k block p scope later env top under d w b more
  put_round false j m outer d0 u o c to way Must k k' block p scope later env top under d w b more =
      let Rest = Emits l a cells stack (words_at a f) (slots_of (place_of a) (variables q)) false to
      way c k k' in
      link_aside l a cells stack lay items begins s calls_n n f q pf false j m outer d0 u
      (Then (plain (put_code (heap_end l cells) (source l a o))) (Then (plain take_link) Rest))
      (put o c) to way Must k block p scope later env top under d w b
      (λ rest p' d' b'. put_simulated l a cells stack lay items begins s calls_n n f q pf false j m
      outer d0 u (Then (plain take_link) Rest) o c to way Must k rest p' scope later env top
      under d' w b'
      (λ w' rest' p2 d2 b2. link_back l a cells stack lay items begins s calls_n n f q pf false j m
      outer d0 u Rest c to way Must k rest' p2 scope later env top under d2 w' b2
      (λ rest2 p3 d3 b3. more w' rest2 p3 d3 b3)))

  pub get_round : (framed : Bool) (j m : ℕ) (outer : List ℕ) (d0 : Data) (u : ℕ) (x : ℕ) (c : Code)
      (to : List Spot) (way : Continuation) (Must : ℕ → Word → Type 0) (k k' : ℕ)
      (block : List Item) (p : ℕ) (scope later : List ℕ) (env : Env) (top : ℕ) (under : Option ℕ)
      (d : Data) (w : World)
      → Block l a cells stack lay items begins f q framed pf.slots j m outer d0 u n (get x c) to way
      Must k k' block p scope later env top under d w
      → ((v : Word) (w' : World) (rest : List Item) (p' : ℕ) (d' : Data)
      → Block l a cells stack lay items begins f q framed pf.slots j m outer d0 u n c to way
      Must k k' rest p' (x ∷ scope) later (with_var x v env) top under d' w'
      → Simulates l a cells stack lay items begins f q framed pf.slots j m outer d0 u n calls_n c to
      way Must p' (with_var x v env) top under d' w')
      → Simulates l a cells stack lay items begins f q framed pf.slots j m outer d0 u n calls_n
      (get x c) to way Must p env top under d w
  get_round true j m outer d0 u x c to way Must k k' block p scope later env top under d w b more =
      get_simulated l a cells stack lay items begins s calls_n n f q pf true j m outer d0 u
      (Emits l a cells stack (words_at a f) (slots_of (place_of a) (variables q)) true to way c
      k k') x c to way Must k block p scope later env top under d w b more
  get_round false j m outer d0 u x c to way Must k k' block p scope later env top under d w b more =
      let Rest = Emits l a cells stack (words_at a f) (slots_of (place_of a) (variables q)) false to
      way c k k' in
      link_aside l a cells stack lay items begins s calls_n n f q pf false j m outer d0 u
      (Then (plain (get_code (heap_end l cells) (place_of a x))) (Then (plain take_link) Rest))
      (get x c) to way Must k block p scope later env top under d w b
      (λ rest p' d' b'. get_simulated l a cells stack lay items begins s calls_n n f q pf false j m
      outer d0 u (Then (plain take_link) Rest) x c to way Must k rest p' scope later env top
      under d' w b'
      (λ v w' rest' p2 d2 b2. link_back l a cells stack lay items begins s calls_n n f q pf false j
      m outer d0 u Rest c to way Must k rest' p2 (x ∷ scope) later (with_var x v env) top under
      d2 w' b2
      (λ rest2 p3 d3 b3. more v w' rest2 p3 d3 b3)))

  pub call_round : CallsSimulated l a cells stack lay items begins calls_n n
      → (framed : Bool) (j m : ℕ) (outer : List ℕ) (d0 : Data) (u : ℕ)
      → address_from 0 items lay (lay.address m) ≡ Some m → 4 * (j + (1 + pf.slots) + u) ≡ stack
      → (g site : ℕ) (os : List Operand) (xs : List ℕ) (c : Code) (to : List Spot)
      (way : Continuation) (Must : ℕ → Word → Type 0) (k k' : ℕ) (block : List Item) (p : ℕ)
      (scope later : List ℕ) (env : Env) (top : ℕ) (under : Option ℕ) (d : Data) (w : World)
      → Block l a cells stack lay items begins f q framed pf.slots j m outer d0 u n
      (call g site os xs c) to way Must k k' block p scope later env top under d w
      → ((env' : Env) (rest : List Item) (p' : ℕ) (d' : Data) (v : World)
      → Block l a cells stack lay items begins f q framed pf.slots j m outer d0 u n c to way
      Must k k' rest p' (xs ++ scope) later env' top under d' v
      → Simulates l a cells stack lay items begins f q framed pf.slots j m outer d0 u n calls_n c to
      way Must p' env' top under d' v)
      → Simulates l a cells stack lay items begins f q framed pf.slots j m outer d0 u n calls_n
      (call g site os xs c) to way Must p env top under d w
  call_round called true j m outer d0 u found total g site os xs c to way Must k k' block p scope
      later env top under d w b more =
      call_statement l a cells stack lay items begins s calls_n n called f q pf true j m outer d0 u
      found total
      (Emits l a cells stack (words_at a f) (slots_of (place_of a) (variables q)) true to way c
      k k') g site os xs c to way Must k block p scope later env top under d w b
      (λ rs env' d' v b'. more env' b.emits.4.0 _ d' v b')
  call_round called false j m outer d0 u found total g site os xs c to way Must k k' block p scope
      later env top under d w b more =
      let Rest = Emits l a cells stack (words_at a f) (slots_of (place_of a) (variables q)) false to
      way c k k' in
      let Back = Then (plain take_link) Rest in
      let Call = Then
      (call_items l a (slots_of (place_of a) (variables q)) g os (saves_at a site) b.emits.0
      b.emits.1) Back in
      let b0 = said false j m outer d0 u false _ _ (call g site os xs c) to way Must k block p scope
      later env top under d w b.emits.4 b in
      link_aside l a cells stack lay items begins s calls_n n f q pf false j m outer d0 u Call
      (call g site os xs c) to way Must k block p scope later env top under d w b0
      (λ rest p' d' b'.
      let b1 = said false j m outer d0 u true (Call rest)
      (CallEmits l a cells stack lay items begins s calls_n n called f q pf false j m outer d0 u
      found total g site os xs Back rest) (call g site os xs c) to way Must k rest p' scope
      later env top under d' w (b.emits.0, b.emits.1, b.emits.2, b.emits.3, b'.emits) b' in
      call_statement l a cells stack lay items begins s calls_n n called f q pf false j m outer d0 u
      found total Back g site os xs c to way Must k rest p' scope later env top under d' w b1
      (λ rs env' d2 v b2. link_back l a cells stack lay items begins s calls_n n f q pf false j m
      outer d0 u Rest c to way Must k b1.emits.4.0 _ (xs ++ scope) later env' top under d2 v b2
      (λ rest2 p3 d3 b3. more env' rest2 p3 d3 v b3)))
