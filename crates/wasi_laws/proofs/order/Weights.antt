-- What operations weigh: whether each is ours, and what it has left to check.
use Rattle.wasi_tcp.specs.declared.socket.TcpState.TheVariants as state
use Rattle.wasi_tcp.specs.declared.listener.Accepting.TheVariants as accepting
use Rattle.wasi_world.specs.Operation.{UdpBind, UdpConnect, Send}
use Rattle.udp_records.specs.declared.udp.UdpRecord.{UdpRecord}
use Rattle.udp_records.specs.declared.udp.UdpInProgress.{UdpInProgress}
use Rattle.udp_records.specs.declared.udp.UdpInProgress.TheVariants as udp
use Rattle.wasi_records.specs.Numbered.{record_gone}
use Rattle.wasi_records.specs.Records.{tcp2_put, tcp2_at, tcp2_of, tcp2_pushed, udp2_at, udp2_of, udp2_put, udp2_pushed}
use Rattle.wasi_records.specs.declared.records.Record.{Record}
use Rattle.wasi_records.specs.declared.records.Record.TheVariants as rec
use Rattle.tcp_records.specs.declared.tcp_listening.Listening.TheVariants as listening
use Rattle.tcp_records.specs.declared.tcp_binding.InProgress.{InProgress}
use Rattle.tcp_records.specs.declared.tcp_binding.InProgress.TheVariants as progress
use Rattle.wasi_addr.specs.declared.address.SocketAddressFamily.{SocketAddressFamily}
use Rattle.wasi_addr.specs.declared.code.ErrorCode.{ErrorCode}
use Rattle.host_store.specs.declared.beside.Beside.{Beside as BesideOthers}
use Rattle.host_store.specs.declared.beside.BesideCall.{BesideCall}
use Rattle.host_store.specs.declared.beside.BesideCall.TheVariants as beside_call
use Rattle.host_store.specs.Beside.{beside_in, beside_with, beside_without}
use Rattle.wasi_walks.proofs.BesideLists.{replaced, with_replaced}
use Rattle.std.specs.Prelude.{not, ◌==◌}
use Rattle.wasi_udp.specs.Connect.{connect_first, connect_left}
use Rattle.wasi_udp.specs.Receive as receive
use Rattle.wasi_udp.specs.Receive.{receive_first, wanted_in}
use Rattle.wasi_udp.specs.Send.{send_first, send_left}
use Rattle.wasi_udp.specs.declared.send.Destination.{Destination}
use Rattle.wasi_walks.proofs.walks.Moves.{receiving_in, sending_in}
use Rattle.wasi_laws.proofs.Words.{Accept, Accepting, Bind, Bool, Check, CheckArrival, CheckLocal, CheckPeer, Connect, Err, Here, IpSocketAddress, Item, List, Listen, Listening, None, Ok, OpId, Operation, Option, Receive, Refuse, Result, Some, TcpRecord, TcpState, [], ap, arith, false, refl, suc, sym, true, zero, ℕ, ◌+◌, ◌∙◌, ◌∷◌, ◌++◌, if◌then◌else◌, ◌≡◌, ◌≤◌}

-- == the checks that are left
-- what an item is to the checks of an operation: one, what they come before, or nothing
pub data Kind : Type 0 where
  ToCheck : Kind
  ToGo : Kind
  Plain : Kind

abbrev pub kind_of : Item → Kind
kind_of (Check a usage) = ToCheck
kind_of (CheckLocal usage) = ToCheck
kind_of Accept = ToCheck
kind_of (CheckArrival peer) = ToCheck
kind_of (Refuse peer) = ToCheck
kind_of (Receive wanted) = ToCheck
kind_of (CheckPeer wanted bytes a) = ToCheck
kind_of (Bind a) = ToGo
kind_of (Connect a) = ToGo
kind_of (Listen backlog) = ToGo
kind_of (UdpBind a) = ToGo
kind_of (UdpConnect family a) = ToGo
kind_of (Send kept a bytes) = ToGo
kind_of _ = Plain

abbrev pub and_then : Kind → ℕ → ℕ
and_then ToCheck zero = 1
and_then ToCheck (suc n) = suc n
and_then ToGo zero = 0
and_then ToGo (suc n) = 2
and_then Plain n = n

-- 0 where no check is left, 1 where all that are come before what goes out, and 2 where one comes after
abbrev pub checks_of : List Item → ℕ
checks_of [] = 0
checks_of (item ∷ items) = and_then (kind_of item) (checks_of items)

-- an item counts for no less than what follows it, and all for 2 at most
kind_counts : (k : Kind) (n : ℕ) → n ≤ 2 → (and_then k n ≤ 2) × (n ≤ and_then k n)
kind_counts ToCheck zero h = (omega arith, omega arith)
kind_counts ToCheck (suc n) h = (h, omega arith)
kind_counts ToGo zero h = (omega arith, omega arith)
kind_counts ToGo (suc n) h = (omega arith, h)
kind_counts Plain n h = (h, omega arith)

checks_at_most : (items : List Item) → checks_of items ≤ 2
checks_at_most [] = omega arith
checks_at_most (item ∷ items) = (kind_counts (kind_of item) (checks_of items) (checks_at_most items)).0

pub drop_weighs : (item : Item) (items : List Item) → checks_of items ≤ checks_of (item ∷ items)
drop_weighs item items = (kind_counts (kind_of item) (checks_of items) (checks_at_most items)).1

-- what is left of a datagram that begins
pub send_begins : (family : SocketAddressFamily) (bytes : List ℕ) (to : Result Destination ErrorCode) (bound : Bool) → checks_of (send_left family bytes (send_first to bound)) ≤ 1
send_begins family bytes (Err c) bound = omega arith
send_begins family bytes (Ok to) true = omega arith
send_begins family bytes (Ok to) false = omega arith

-- of a connect
pub udp_connect_begins : (family : SocketAddressFamily) (a : IpSocketAddress) (bound : Bool) → checks_of (connect_left family a (connect_first bound)) ≤ 1
udp_connect_begins family a true = omega arith
udp_connect_begins family a false = omega arith

-- and of a receive
pub receive_begins : (bound : Bool) → checks_of (receive.receive_left None (receive_first bound)) ≤ 1
receive_begins true = omega arith
receive_begins false = omega arith

-- another wanted address is no other check
pub wanted_checks : (only : Option IpSocketAddress) (items : List Item) → checks_of (wanted_in only items) ≡ checks_of items
wanted_checks only [] = refl
wanted_checks only (Receive wanted ∷ items) = refl
wanted_checks only (CheckPeer wanted bytes a ∷ items) = refl
wanted_checks only (item ∷ items) = refl

-- so many, where it is ours
abbrev pub if_ours : Bool → ℕ → ℕ
if_ours true n = n
if_ours false n = 0

-- what an operation weighs: whether it is ours, and what it has left
abbrev pub op_weight : (OpId → Bool) → OpId → List Item → Bool → ℕ
op_weight ours id items false = if_ours (ours id) 1
op_weight ours id items true = if_ours (ours id) (checks_of items)

half_if : (mine : Bool) (items : List Item) → if_ours mine (checks_of items) ≤ if_ours mine 1 + if_ours mine 1
half_if true items = let k = checks_at_most items in omega (arith, k)
half_if false items = omega arith

-- == the operations that are kept
abbrev pub state_ops : TcpState → List Operation
state_ops (state.Connecting op) = op ∷ []
state_ops _ = []

abbrev pub accept_ops : Accepting → List Operation
accept_ops (accepting.Asking op) = op ∷ []
accept_ops _ = []

abbrev pub listening_ops : Listening → List Operation
listening_ops (listening.Begins op) = op ∷ []
listening_ops (listening.Accepts l) = accept_ops l.accept
listening_ops _ = []

abbrev pub progress_ops : InProgress → List Operation
progress_ops (progress.Binding op) = op ∷ []
progress_ops _ = []

abbrev pub udp_progress_ops : UdpInProgress → List Operation
udp_progress_ops (udp.Binding op) = op ∷ []
udp_progress_ops _ = []

-- a connect, a datagram or a receive, where there is one
abbrev pub op_in : Option Operation → List Operation
op_in (Some op) = op ∷ []
op_in None = []

-- a datagram of 0.3, which its call keeps
abbrev pub call_ops : BesideCall → List Operation
call_ops (beside_call.Send place op) = op ∷ []
call_ops (beside_call.Receive place op) = op ∷ []
call_ops _ = []

abbrev in_call : BesideCall → Option BesideOthers → BesideCall
in_call call None = call
in_call call (Some b) = b.call

module _ (ours : OpId → Bool) where
  abbrev pub total : List Operation → Bool → ℕ
  total [] i = 0
  total (op ∷ ops) i = op_weight ours op.who.id op.left i + total ops i

  -- what has a check left counts for itself too
  pub half : (ops : List Operation) → total ops true ≤ total ops false + total ops false
  half [] = omega arith
  half (op ∷ ops) = let a = half_if (ours op.who.id) op.left in let b = half ops in omega (arith, a, b)

  -- what it writes asks for nothing that is checked, and so weighs nothing
  abbrev pub record_weight : TcpRecord → Bool → ℕ
  record_weight r i = total (state_ops r.inner.state) i + (total (listening_ops r.listening) i + total (progress_ops r.in_progress) i)

  -- of one that is open: what is in progress, the connect, the datagram that is sent, and the receive
  abbrev pub udp_weight : UdpRecord → Bool → ℕ
  udp_weight (UdpRecord.Creating create) i = total (create.operation ∷ []) i
  udp_weight (UdpRecord.Open o) i = total (udp_progress_ops o.in_progress) i + (total (op_in o.connecting) i + (total (op_in (sending_in o.outgoing)) i + total (op_in (receiving_in o.incoming)) i))
  udp_weight (UdpRecord.Closed side) i = 0

  -- and so in a UDP socket
  half_udp : (u : UdpRecord) → udp_weight u true ≤ udp_weight u false + udp_weight u false
  half_udp (UdpRecord.Creating create) = half (create.operation ∷ [])
  half_udp (UdpRecord.Open o) = let a = half (udp_progress_ops o.in_progress) in let b = half (op_in o.connecting) in let c = half (op_in (sending_in o.outgoing)) in let d = half (op_in (receiving_in o.incoming)) in omega (arith, a, b, c, d)
  half_udp (UdpRecord.Closed side) = omega arith

  -- by the socket that a record is; a lookup weighs nothing, nor does a pipe
  abbrev weight_in : Option TcpRecord → Option UdpRecord → Bool → ℕ
  weight_in (Some r) u i = record_weight r i
  weight_in None (Some u) i = udp_weight u i
  weight_in None None i = 0

  abbrev pub weight_of : Record → Bool → ℕ
  weight_of x i = weight_in (tcp2_of (Some x)) (udp2_of (Some x)) i

  abbrev pub sockets_weight : List Record → Bool → ℕ
  sockets_weight [] i = 0
  sockets_weight (x ∷ rs) i = weight_of x i + sockets_weight rs i

  -- the sockets alone weigh something
  same_weight_in : (a b : Option TcpRecord) (c d : Option UdpRecord) → a ≡ b → c ≡ d → (i : Bool) → weight_in a c i ≡ weight_in b d i
  same_weight_in a b c d e f i = ap (λ (o : Option TcpRecord). weight_in o c i) e ∙ ap (λ (o : Option UdpRecord). weight_in b o i) f

  none_weigh : (rs : List Record) → ((k : ℕ) → tcp2_at rs k ≡ None) → ((k : ℕ) → udp2_at rs k ≡ None) → (i : Bool) → sockets_weight rs i ≡ 0
  none_weigh [] t u i = refl
  none_weigh (x ∷ rs) t u i = let a = same_weight_in (tcp2_of (Some x)) None (udp2_of (Some x)) None (t 0) (u 0) i in let k = none_weigh rs (λ n. t (suc n)) (λ n. u (suc n)) i in omega (arith, a, k)

  pub sockets_same : (old now : List Record) → ((k : ℕ) → tcp2_at now k ≡ tcp2_at old k) → ((k : ℕ) → udp2_at now k ≡ udp2_at old k) → (i : Bool) → sockets_weight now i ≡ sockets_weight old i
  sockets_same [] now t u i = none_weigh now t u i
  sockets_same old [] t u i = sym (none_weigh old (λ k. sym (t k)) (λ k. sym (u k)) i)
  sockets_same (x ∷ old) (y ∷ now) t u i = let a = same_weight_in (tcp2_of (Some y)) (tcp2_of (Some x)) (udp2_of (Some y)) (udp2_of (Some x)) (t 0) (u 0) i in let k = sockets_same old now (λ n. t (suc n)) (λ n. u (suc n)) i in omega (arith, a, k)

  pub half_sockets : (rs : List Record) → sockets_weight rs true ≤ sockets_weight rs false + sockets_weight rs false
  half_sockets [] = omega arith
  half_sockets (rec.Tcp r ∷ rs) = let a = half (state_ops r.inner.state) in let b = half (listening_ops r.listening) in let p = half (progress_ops r.in_progress) in let d = half_sockets rs in omega (arith, a, b, p, d)
  half_sockets (rec.Udp u ∷ rs) = let a = half_udp u in let d = half_sockets rs in omega (arith, a, d)
  half_sockets (rec.Lookup l ∷ rs) = let d = half_sockets rs in omega (arith, d)
  half_sockets (rec.InputPipe bytes ∷ rs) = let d = half_sockets rs in omega (arith, d)
  half_sockets (rec.OutputPipe pipe ∷ rs) = let d = half_sockets rs in omega (arith, d)
  half_sockets (rec.Slot s ∷ rs) = let d = half_sockets rs in omega (arith, d)
  half_sockets (rec.Gone ∷ rs) = let d = half_sockets rs in omega (arith, d)

  -- what is given back weighs nothing any more
  pub sockets_fewer : (rs : List Record) (place : ℕ) (i : Bool) → sockets_weight (record_gone rs place) i ≤ sockets_weight rs i
  sockets_fewer [] place i = omega arith
  sockets_fewer (x ∷ rs) zero i = omega arith
  sockets_fewer (x ∷ rs) (suc place) i = let k = sockets_fewer rs place i in omega (arith, k)

  pub sockets_push : (rs : List Record) (r : TcpRecord) (i : Bool) → sockets_weight (tcp2_pushed rs r) i ≡ sockets_weight rs i + record_weight r i
  sockets_push [] r i = omega arith
  sockets_push (x ∷ rs) r i = let k = sockets_push rs r i in omega (arith, k)

  pub udps_push : (rs : List Record) (u : UdpRecord) (i : Bool) → sockets_weight (udp2_pushed rs u) i ≡ sockets_weight rs i + udp_weight u i
  udps_push [] u i = omega arith
  udps_push (x ∷ rs) u i = let k = udps_push rs u i in omega (arith, k)

  -- The records but one, which weighs so much wherever it changes.
  pub record Beside (rs : List Record) (place : ℕ) (r : TcpRecord) : Type 0 where
    pub others : Bool → ℕ
    pub halved : others true ≤ others false + others false
    pub was : (i : Bool) → sockets_weight rs i ≡ others i + record_weight r i
    pub now : (q : TcpRecord) (i : Bool) → sockets_weight (tcp2_put rs place q) i ≡ others i + record_weight q i

  pub beside : (rs : List Record) (place : ℕ) (r : TcpRecord) → tcp2_at rs place ≡ Some r → Beside rs place r
  beside [] place r g = absurd (cc)
  beside (rec.Tcp x ∷ rs) zero r g = record { others = sockets_weight rs; halved = half_sockets rs; was = λ i. (let e : x ≡ r = cc in let s : record_weight x i ≡ record_weight r i = ap (λ (y : TcpRecord). record_weight y i) e in omega (arith, s)); now = λ q i. omega arith }
  beside (_ ∷ rs) zero r g = absurd (cc)
  beside (x ∷ rs) (suc place) r g =
      let k = beside rs place r g in
      record {
        others = λ i. weight_of x i + k.others i;
        halved = (let a = half_sockets (x ∷ []) in let h = k.halved in omega (arith, a, h));
        was = λ i. (let e = k.was i in omega (arith, e));
        now = λ q i. (let e = k.now q i in omega (arith, e));
      }

  -- the same of a UDP socket
  pub record BesideUdp (rs : List Record) (place : ℕ) (u : UdpRecord) : Type 0 where
    pub others : Bool → ℕ
    pub halved : others true ≤ others false + others false
    pub was : (i : Bool) → sockets_weight rs i ≡ others i + udp_weight u i
    pub now : (q : UdpRecord) (i : Bool) → sockets_weight (udp2_put rs place q) i ≡ others i + udp_weight q i

  pub beside_udp : (rs : List Record) (place : ℕ) (u : UdpRecord) → udp2_at rs place ≡ Some u → BesideUdp rs place u
  beside_udp [] place u g = absurd (cc)
  beside_udp (rec.Tcp x ∷ rs) zero u g = absurd (cc)
  beside_udp (rec.Udp x ∷ rs) zero u g = record { others = sockets_weight rs; halved = half_sockets rs; was = λ i. (let e : x ≡ u = cc in let s : udp_weight x i ≡ udp_weight u i = ap (λ (y : UdpRecord). udp_weight y i) e in omega (arith, s)); now = λ q i. omega arith }
  beside_udp (rec.Lookup l ∷ rs) zero u g = absurd (cc)
  beside_udp (rec.InputPipe bytes ∷ rs) zero u g = absurd (cc)
  beside_udp (rec.OutputPipe pipe ∷ rs) zero u g = absurd (cc)
  beside_udp (rec.Slot s ∷ rs) zero u g = absurd (cc)
  beside_udp (rec.Gone ∷ rs) zero u g = absurd (cc)
  beside_udp (x ∷ rs) (suc place) u g =
      let k = beside_udp rs place u g in
      record {
        others = λ i. weight_of x i + k.others i;
        halved = (let a = half_sockets (x ∷ []) in let h = k.halved in omega (arith, a, h));
        was = λ i. (let e = k.was i in omega (arith, e));
        now = λ q i. (let e = k.now q i in omega (arith, e));
      }

  -- == calls beside others
  abbrev pub calls_weight : List BesideOthers → Bool → ℕ
  calls_weight [] i = 0
  calls_weight (b ∷ calls) i = total (call_ops b.call) i + calls_weight calls i

  pub half_calls : (calls : List BesideOthers) → calls_weight calls true ≤ calls_weight calls false + calls_weight calls false
  half_calls [] = omega arith
  half_calls (b ∷ calls) = let a = half (call_ops b.call) in let k = half_calls calls in omega (arith, a, k)

  pub calls_push : (calls : List BesideOthers) (b : BesideOthers) (i : Bool) → calls_weight (calls ++ b ∷ []) i ≡ calls_weight calls i + total (call_ops b.call) i
  calls_push [] b i = omega arith
  calls_push (x ∷ calls) b i = let k = calls_push calls b i in omega (arith, k)

  -- those but one weigh no more
  pub calls_fewer : (calls : List BesideOthers) (n : ℕ) (i : Bool) → calls_weight (beside_without calls n) i ≤ calls_weight calls i
  calls_fewer [] n i = omega arith
  calls_fewer (x ∷ calls) n i = by_line (x.line == n) (calls_fewer calls n i)
    where
      by_line : (same : Bool) → calls_weight (beside_without calls n) i ≤ calls_weight calls i → calls_weight (if not same then x ∷ beside_without calls n else beside_without calls n) i ≤ total (call_ops x.call) i + calls_weight calls i
      by_line true k = omega (arith, k)
      by_line false k = omega (arith, k)

  -- The calls but that of a number, which weighs so much wherever it changes.
  pub record CallAt (calls : List BesideOthers) (n : ℕ) (b : BesideOthers) : Type 0 where
    pub others : Bool → ℕ
    pub halved : others true ≤ others false + others false
    pub was : (i : Bool) → calls_weight calls i ≡ others i + total (call_ops b.call) i
    pub put : (call : BesideCall) (i : Bool) → calls_weight (replaced calls n call) i ≡ others i + total (call_ops call) i
    pub gone : (i : Bool) → calls_weight (beside_without calls n) i ≤ others i

  pub call_at : (calls : List BesideOthers) (n : ℕ) (b : BesideOthers) → beside_in calls n ≡ Some b → CallAt calls n b
  unfolding replaced
  call_at [] n b e = absurd (cc)
  call_at (x ∷ calls) n b e = by_line (x.line == n) refl e (λ q. call_at calls n b q)
    where
      by_line : (same : Bool) → (x.line == n) ≡ same → (if same then Some x else beside_in calls n) ≡ Some b → (beside_in calls n ≡ Some b → CallAt calls n b) → CallAt (x ∷ calls) n b
      by_line true s q k = record {
        others = λ i. calls_weight calls i;
        halved = half_calls calls;
        was = λ i. (let z : total (call_ops x.call) i ≡ total (call_ops b.call) i = ap (λ (o : Option BesideOthers). total (call_ops (in_call x.call o)) i) q in omega (arith, z));
        put = λ call i. rw s (omega arith);
        gone = λ i. (let l = calls_fewer calls n i in rw s (omega (arith, l)));
      }
      by_line false s q k =
          let c = k q in
          record {
            others = λ i. total (call_ops x.call) i + c.others i;
            halved = (let a = half (call_ops x.call) in let h = c.halved in omega (arith, a, h));
            was = λ i. (let w = c.was i in omega (arith, w));
            put = λ call i. (let w = c.put call i in rw s (omega (arith, w)));
            gone = λ i. (let w = c.gone i in rw s (omega (arith, w)));
          }

  pub with_weighs : (calls : List BesideOthers) (n : ℕ) (b : BesideOthers) (at : CallAt calls n b) (call : BesideCall) (i : Bool) → calls_weight (beside_with calls n call) i ≡ at.others i + total (call_ops call) i
  with_weighs calls n b at call i = rw (with_replaced calls n call) (at.put call i)

  -- what a line weighs
  abbrev pub weight : Here → Bool → ℕ
  weight h i = sockets_weight h.machine.store.records i + calls_weight h.machine.store.beside i
