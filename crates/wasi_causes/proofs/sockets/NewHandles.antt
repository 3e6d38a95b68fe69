-- The handles that a create, a connect that is finished and an accept give were marked in their line, and have 32 bits.
use Rattle.wasi_causes.proofs.Words.{Answered, Bool, Entry, Err, ErrorCode, Give, HandleTable, Input, Kind, List, Machine, NoSuchHandle, None, Ok}
use Rattle.wasi_causes.proofs.Words.{OpId, Option, Output, Reply, Result, Socket, Some, Standing, Stop, Tcp2, WasiSocketsCtx, [], accept_at}
use Rattle.wasi_causes.proofs.Words.{accepted_streams, allows_if, arith, asks_while, bind, context_at, create_asks, created_asks, entry, false}
use Rattle.wasi_causes.proofs.Words.{first_ids, is_full, leb-false, length, make_asks, name_of, nat_le, new_asks, own_of, refl, side_at, side_of}
use Rattle.wasi_causes.proofs.Words.{socket_at, subst, sym, true, with_record, with_store, ℕ, ⊤, ◌++◌, ◌+◌, ◌<◌, ◌∷◌, ◌≡◌}
use Rattle.std.specs.Prelude.{◌^◌, ◌||◌}
use Rattle.wasi_addr.specs.declared.address.SocketAddressFamily.{SocketAddressFamily}
use Rattle.wasi_world.specs.declared.ids.Ids.{Ids}
use Rattle.wasi_records.specs.Records.{tcp2_at}
use Rattle.record_common.specs.Stops.{Code, StopOf, Trap}
use Rattle.host_store.specs.Block as block
use Rattle.host_store.specs.Block.{Does, after_call, or_stop, or_trap}
use Rattle.host_store.specs.Lines.{finish_connect_of, in_store, makes, same_stop, storing, tabling}
use Rattle.wasi_addr.specs.declared.p2.ErrorCode.{ErrorCode as P2Code}
use Rattle.host_tcp.specs.Creates.{same_told, with_room}
use Rattle.host_store.specs.Machine.{with_table}
use Rattle.wasi_p2.specs.Tcp.{accept_on, accepted_asks, finish_connect, make_streams, socket_with_streams}
use Rattle.wasi_steps.specs.declared.guest_call.GuestCall.TheVariants as guest
use Rattle.wasi_steps.specs.declared.guest_call.TcpCall.TheVariants as tcp_call
use Rattle.wasi_steps.specs.declared.reply.Field.{Field}
use Rattle.wasi_steps.specs.declared.reply.Reply.TheVariants as reply
use Rattle.wasi_steps.specs.declared.step.Step.TheVariants as step
use Rattle.wasi_steps.specs.Reply.{number_fields, pair_values, triple_values}
use Rattle.wasi_machine.specs.Machine.{reply_of}
use Rattle.wasi_walks.proofs.Gives.{Gives, given, gives_any, gives_more, gives_then}
use Rattle.wasi_walks.proofs.Lists.{has_front, has_last}
use Rattle.wasi_causes.specs.Marks.{GivesOne, GivesThree, GivesTwo, IsNewHandle}

-- it is a value
abbrev Gave : {A E : Type 0} → Result A E → Type 0
Gave (Ok a) = ⊤
Gave (Err e) = ⊥

module _ (own : OpId) where
  -- with one entry more
  still : (es fs : List Entry) (handle : ℕ) → IsNewHandle own es handle → IsNewHandle own (es ++ fs) handle
  still es fs handle h = record { kind = h.kind; parent = h.parent; sock = h.sock; told = h.told; marked = has_front es fs _ h.marked; small = h.small }

  abbrev One : List Entry → Result ℕ Stop → Type 0
  One es (Ok handle) = IsNewHandle own es handle
  One es (Err why) = ⊤

  abbrev Two : List Entry → Result (ℕ × ℕ) Stop → Type 0
  Two es (Ok (input, output)) = IsNewHandle own es input × IsNewHandle own es output
  Two es (Err why) = ⊤

  abbrev Three : List Entry → Result (ℕ × ℕ × ℕ) Stop → Type 0
  Three es (Ok (socket, input, output)) = IsNewHandle own es socket × IsNewHandle own es input × IsNewHandle own es output
  Three es (Err why) = ⊤

  -- there is room, so the number is below the limit
  has_room : (t : HandleTable) → is_full t ≡ false → t.next < 2 ^ 32
  has_room t e = by_tests (nat_le 65536 (length t.live)) (nat_le 4294967295 t.next) refl e
    where
      by_tests : (many late : Bool) → nat_le 4294967295 t.next ≡ late → (many || late) ≡ false → t.next < 2 ^ 32
      by_tests true late p q = absurd (cc)
      by_tests false true p q = absurd (cc)
      by_tests false false p q = let below : t.next < 4294967295 = leb-false 4294967295 t.next p in omega arith

  -- what is kept of what was marked before
  module _ (K : List Entry → Type 0) (more : (es : List Entry) (e : Entry) → K es → K (es ++ e ∷ [])) where
    marks : (t : HandleTable) (kind : Kind) (parent : Option ℕ) (sock : Option OpId) (es : List Entry) → K es → Gives (λ fs made. K fs × One fs made.0) es (make_asks t own kind parent sock)
    unfolding bind
    marks t kind parent sock es k =
        allows_if (λ fs op c. ⊤) (λ fs made. K fs × One fs made.0) es (is_full t) _ _ (λ full. (k, tt))
        (λ room. (tt, λ told fits. (more es _ k, record { kind = name_of kind; parent = parent; sock = sock; told = told; marked = has_last es _; small = has_room t room })))

  -- == lines of blocks
  module _ {C A B : Type 0} (Q : List Entry → Result B (StopOf C) → Type 0) (none : (es : List Entry) (why : StopOf C) → Q es (Err why)) where
    looks_up : {S : Type 0} (next : A → Does C S B) (s : S) (o : Option A) (es : List Entry) → ((a : A) → Gives (λ fs done. Q fs done.0) es (next a s)) → Gives (λ fs done. Q fs done.0) es (or_trap next s o)
    looks_up next s None es k = none es (Trap NoSuchHandle)
    looks_up next s (Some a) es k = k a

    by_result : {S E : Type 0} (seen : E → StopOf C) (next : A → Does C S B) (r : Result A E) (s : S) (es : List Entry) → ((a : A) → r ≡ Ok a → Gives (λ fs done. Q fs done.0) es (next a s)) → Gives (λ fs done. Q fs done.0) es (or_stop seen next r s)
    by_result seen next (Ok a) s es k = k a refl
    by_result seen next (Err e) s es k = none es (seen e)

  -- == two streams
  module _ (K : List Entry → Type 0) (more : (es : List Entry) (e : Entry) → K es → K (es ++ e ∷ [])) where
    -- the first stays marked
    first_more : (input : ℕ) (es : List Entry) (e : Entry) → K es × IsNewHandle own es input → K (es ++ e ∷ []) × IsNewHandle own (es ++ e ∷ []) input
    first_more input es e h = (more es e h.0, still es (e ∷ []) input h.1)

    abbrev Both : List Entry → Result (ℕ × ℕ) Stop → Type 0
    Both es r = (Gave r → K es) × Two es r

    streams : (socket place : ℕ) (side : Option OpId) (m : Machine) (es : List Entry) → K es → Gives (λ fs done. Both fs done.0) es (make_streams own socket place side m)
    streams socket place side m es k =
        gives_then (λ fs made. K fs × One fs made.0) (λ fs done. Both fs done.0) es (make_asks m.table own (Input place) (Some socket) side) (after_call same_stop tabling after_input m) (marks K more m.table (Input place) (Some socket) side es k)
        (λ fs made h. by_result Both (λ gs why. ((λ no. absurd no), tt)) same_stop after_input made.0 (tabling m made.1) fs (λ input is. second input (tabling m made.1) fs (h.0, subst (One fs) is h.1)))
      where
        after_input : ℕ → Does P2Code Machine (ℕ × ℕ)
        after_input input = block.goes_on (makes own (Output place) (Some socket) side) (λ output. block.give (input, output))

        second : (input : ℕ) (n : Machine) (fs : List Entry) → K fs × IsNewHandle own fs input → Gives (λ gs done. Both gs done.0) fs (after_input input n)
        second input n fs h =
            gives_then (λ gs made. (K gs × IsNewHandle own gs input) × One gs made.0) (λ gs done. Both gs done.0) fs (make_asks n.table own (Output place) (Some socket) side) (after_call same_stop tabling (λ output. block.give (input, output)) n) (marks (λ gs. K gs × IsNewHandle own gs input) (first_more input) n.table (Output place) (Some socket) side fs h)
            (λ gs made j. by_result Both (λ ks why. ((λ no. absurd no), tt)) same_stop (λ output. block.give (input, output)) made.0 (tabling n made.1) gs (λ output is. ((λ ok. j.0.0), (j.0.1, subst (One gs) is j.1))))

  -- == a connect that is finished
  abbrev none_kept : List Entry → Type 0
  none_kept es = ⊤

  finished : (socket : ℕ) (m : Machine) (es : List Entry) → Gives (λ fs done. Two fs done.0) es (finish_connect own socket m)
  finished socket m es =
      looks_up Two (λ fs why. tt) at_place m (socket_at m socket) es (λ place.
      gives_then (λ fs done. ⊤) (λ fs done. Two fs done.0) es (finish_connect_of place m.store) (after_call same_stop storing (at_done place) m) (gives_any (λ fs done. ⊤) (λ fs done. tt) es (finish_connect_of place m.store))
      (λ fs done t. by_result Two (λ gs why. tt) same_stop (at_done place) done.0 (storing m done.1) fs (λ a is. made place (storing m done.1) fs)))
    where
      at_done : ℕ → Unit {0} → Does P2Code Machine (ℕ × ℕ)
      at_done place a = block.goes_on (block.Read (λ n. side_at (tcp2_at n.store.records place))) (λ side. make_streams own socket place side)

      at_place : ℕ → Does P2Code Machine (ℕ × ℕ)
      at_place place = block.goes_on (in_store (finish_connect_of place)) (at_done place)

      made : (place : ℕ) (n : Machine) (fs : List Entry) → Gives (λ gs done. Two gs done.0) fs (make_streams own socket place (side_at (tcp2_at n.store.records place)) n)
      made place n fs =
          gives_more (λ gs done. Both none_kept (λ ks e t. tt) gs done.0) (λ gs done. Two gs done.0) (λ gs done h. h.1) fs (make_streams own socket place (side_at (tcp2_at n.store.records place)) n) (streams none_kept (λ ks e t. tt) socket place (side_at (tcp2_at n.store.records place)) n fs tt)

  -- == an accept
  with_streams : (socket : ℕ) (es : List Entry) (r : Result (ℕ × ℕ) Stop) (m : Machine) → (Gave r → IsNewHandle own es socket) × Two es r → Three es (socket_with_streams socket (r, m)).0
  with_streams socket es (Ok (input, output)) m h = (h.0 tt, h.1.0, h.1.1)
  with_streams socket es (Err why) m h = tt

  accepted_all : (place : ℕ) (side : Option OpId) (r : Result ℕ Stop) (m : Machine) (es : List Entry) → One es r → Gives (λ fs done. Three fs done.0) es (accepted_streams own place side (r, m))
  accepted_all place side (Ok socket) m es h =
      gives_then (λ fs done. (Gave done.0 → IsNewHandle own fs socket) × Two fs done.0) (λ fs done. Three fs done.0) es (make_streams own socket place side m) (λ made. Give (socket_with_streams socket made))
      (streams (λ fs. IsNewHandle own fs socket) (λ fs e k. still fs (e ∷ []) socket k) socket place side m es h) (λ fs done k. with_streams socket fs done.0 done.1 k)
  accepted_all place side (Err why) m es h = tt

  accepted : (listener : ℕ) (r : Result ℕ Stop) (m : Machine) (es : List Entry) → Gives (λ fs done. Three fs done.0) es (accepted_asks own listener (r, m))
  accepted listener (Ok place) m es =
      let side : Option OpId = side_at (tcp2_at m.store.records place) in
      gives_then (λ fs made. none_kept fs × One fs made.0) (λ fs done. Three fs done.0) es (make_asks m.table own (Tcp2 place) (Some listener) side) (λ made. accepted_streams own place side (with_table m made)) (marks none_kept (λ fs e t. tt) m.table (Tcp2 place) (Some listener) side es tt)
      (λ fs made h. accepted_all place side made.0 (record m { table = made.1 }) fs h.1)
  accepted listener (Err why) m es = tt

  accepts : (m : Machine) (ids : Ids) (is : own_of ids.line ≡ own) (listener : ℕ) (o : Option ℕ) (es : List Entry) → Gives (λ fs done. Three fs done.0) es (accept_on m ids listener o)
  accepts m ids is listener None es = tt
  accepts m ids is listener (Some place) es =
      subst (λ (x : OpId). Gives (λ fs done. Three fs done.0) es (bind (accept_at m.store ids place (tcp2_at m.store.records place)) (λ done. accepted_asks x listener (with_store m done)))) (sym is)
      (gives_then (λ fs done. ⊤) (λ fs done. Three fs done.0) es (accept_at m.store ids place (tcp2_at m.store.records place)) (λ done. accepted_asks own listener (with_store m done)) (gives_any (λ fs done. ⊤) (λ fs done. tt) es (accept_at m.store ids place (tcp2_at m.store.records place)))
      (λ fs done t. accepted listener done.0 (record m { store = done.1 }) fs))

  -- == a create
  created : (m : Machine) (r : Result Socket ErrorCode) (es : List Entry) → Gives (λ fs done. One fs done.0) es (created_asks m own r)
  created m (Ok socket) es =
      gives_then (λ fs made. none_kept fs × One fs made.0) (λ fs done. One fs done.0) es (make_asks m.table own (Tcp2 (length m.store.records)) None (side_of socket)) (λ made. Give (same_told made.0, record m { table = made.1; store = with_record m.store socket })) (marks none_kept (λ fs e t. tt) m.table (Tcp2 (length m.store.records)) None (side_of socket) es tt) (λ fs made h. h.1)
  created m (Err c) es = tt

  creates : (m : Machine) (ctx : WasiSocketsCtx) (family : SocketAddressFamily) (es : List Entry) → Gives (λ fs done. One fs done.0) es (create_asks m own ctx family)
  creates m ctx family es = gives_then (λ fs made. ⊤) (λ fs done. One fs done.0) es (new_asks own ctx family) (created_asks (with_room m ctx) own) (gives_any (λ fs made. ⊤) (λ fs made. tt) es (new_asks own ctx family)) (λ fs made t. created (with_room m ctx) made fs)

-- == their replies
module _ (contexts : List WasiSocketsCtx) (m : Machine) (line ctx : ℕ) where
  abbrev OneReplied : List Entry → Reply → Type 0
  OneReplied es (reply.Ok fields) = GivesOne (own_of line) es fields
  OneReplied es _ = ⊤

  abbrev TwoReplied : List Entry → Reply → Type 0
  TwoReplied es (reply.Ok fields) = GivesTwo (own_of line) es fields
  TwoReplied es _ = ⊤

  abbrev ThreeReplied : List Entry → Reply → Type 0
  ThreeReplied es (reply.Ok fields) = GivesThree (own_of line) es fields
  ThreeReplied es _ = ⊤

  one : (es : List Entry) (r : Result ℕ Stop) → One (own_of line) es r → OneReplied es (reply_of number_fields r)
  one es (Ok handle) h = record { handle = handle; gives = refl; made = h }
  one es (Err (Code c)) h = tt
  one es (Err (Trap kind)) h = tt

  two : (es : List Entry) (r : Result (ℕ × ℕ) Stop) → Two (own_of line) es r → TwoReplied es (reply_of pair_values r)
  two es (Ok (input, output)) h = record { input = input; output = output; gives = refl; input_made = h.0; output_made = h.1 }
  two es (Err (Code c)) h = tt
  two es (Err (Trap kind)) h = tt

  three : (es : List Entry) (r : Result (ℕ × ℕ × ℕ) Stop) → Three (own_of line) es r → ThreeReplied es (reply_of triple_values r)
  three es (Ok (socket, input, output)) h = record { socket = socket; input = input; output = output; gives = refl; socket_made = h.0; input_made = h.1; output_made = h.2 }
  three es (Err (Code c)) h = tt
  three es (Err (Trap kind)) h = tt

  module _ (family : SocketAddressFamily) where
    create_while : (o : Option Standing) → Gives (λ fs done. OneReplied fs done.0) [] (asks_while contexts m line (step.Call ctx (guest.Tcp (tcp_call.Create family))) o)
    create_while None = gives_then (λ fs done. One (own_of line) fs done.0) (λ fs done. OneReplied fs done.0) [] (create_asks m (own_of line) (context_at contexts ctx) family) (λ done. Give (reply_of number_fields done.0, done.1)) (creates (own_of line) m (context_at contexts ctx) family []) (λ fs done k. one fs done.0 k)
    create_while (Some c) = tt

    pub create_gives : (es : List Entry) (fields : List Field) (after : Machine) → Answered contexts m line (step.Call ctx (guest.Tcp (tcp_call.Create family))) es (reply.Ok fields) after → GivesOne (own_of line) es fields
    create_gives es fields after a = given (λ fs done. OneReplied fs done.0) (asks_while contexts m line (step.Call ctx (guest.Tcp (tcp_call.Create family))) m.store.standing) es (reply.Ok fields, after) (create_while m.store.standing) a

  module _ (socket : ℕ) where
    finish_while : (o : Option Standing) → Gives (λ fs done. TwoReplied fs done.0) [] (asks_while contexts m line (step.Call ctx (guest.Tcp (tcp_call.FinishConnect socket))) o)
    finish_while None = gives_then (λ fs done. Two (own_of line) fs done.0) (λ fs done. TwoReplied fs done.0) [] (finish_connect (own_of line) socket m) (λ done. Give (reply_of pair_values done.0, done.1)) (finished (own_of line) socket m []) (λ fs done k. two fs done.0 k)
    finish_while (Some c) = tt

    pub finish_gives : (es : List Entry) (fields : List Field) (after : Machine) → Answered contexts m line (step.Call ctx (guest.Tcp (tcp_call.FinishConnect socket))) es (reply.Ok fields) after → GivesTwo (own_of line) es fields
    finish_gives es fields after a = given (λ fs done. TwoReplied fs done.0) (asks_while contexts m line (step.Call ctx (guest.Tcp (tcp_call.FinishConnect socket))) m.store.standing) es (reply.Ok fields, after) (finish_while m.store.standing) a

    accept_while : (o : Option Standing) → Gives (λ fs done. ThreeReplied fs done.0) [] (asks_while contexts m line (step.Call ctx (guest.Tcp (tcp_call.Accept socket))) o)
    accept_while None = gives_then (λ fs done. Three (own_of line) fs done.0) (λ fs done. ThreeReplied fs done.0) [] (accept_on m (first_ids line) socket (socket_at m socket)) (λ done. Give (reply_of triple_values done.0, done.1)) (accepts (own_of line) m (first_ids line) refl socket (socket_at m socket) []) (λ fs done k. three fs done.0 k)
    accept_while (Some c) = tt

    pub accept_gives : (es : List Entry) (fields : List Field) (after : Machine) → Answered contexts m line (step.Call ctx (guest.Tcp (tcp_call.Accept socket))) es (reply.Ok fields) after → GivesThree (own_of line) es fields
    accept_gives es fields after a = given (λ fs done. ThreeReplied fs done.0) (asks_while contexts m line (step.Call ctx (guest.Tcp (tcp_call.Accept socket))) m.store.standing) es (reply.Ok fields, after) (accept_while m.store.standing) a
