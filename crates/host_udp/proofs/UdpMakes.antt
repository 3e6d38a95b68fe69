-- A UDP socket is made: the network socket that its create makes, and its handle.
use Rattle.std.proofs.Common.{◌≡◌, ℕ, Bool, true, false, if◌then◌else◌, List, [], ◌∷◌, length, Option, Some, None, Result, Ok, Err, OnErr, refl, arith}
use Rattle.std.specs.declared.alloc.AllocError.{AllocError}
use Rattle.wasi_addr.specs.declared.address.SocketAddressFamily.{SocketAddressFamily}
use Rattle.wasi_addr.specs.declared.code.ErrorCode.{ErrorCode}
use Rattle.wasi_addr.specs.declared.code.ErrorCode.TheVariants.{AccessDenied}
use Rattle.wasi_world.specs.declared.call.Entry.{Entry}
use Rattle.wasi_world.specs.declared.call.Told.{Told}
use Rattle.wasi_world.specs.declared.call.Told.TheVariants as told
use Rattle.wasi_world.specs.declared.ids.Ids.{Ids}
use Rattle.wasi_world.specs.declared.ids.OpId.{OpId}
use Rattle.wasi_world.specs.declared.outcome.Answer.{Answer}
use Rattle.wasi_world.specs.declared.outcome.Refusal.{Refusal}
use Rattle.wasi_world.specs.declared.outcome.Refusal.TheVariants as refusal
use Rattle.wasi_world.specs.declared.outcome.WasiSocketsCtx.{WasiSocketsCtx}
use Rattle.wasi_world.specs.Asks.{Give, bind, Left, Reaches, AsksFor, outcome}
use Rattle.wasi_world.specs.Fits.{IsDoneOrCode}
use Rattle.wasi_world.specs.Seen.{Seen}
use Rattle.wasi_world.specs.Sides.{is_done}
use Rattle.wasi_world.specs.Typed.{told_done, ask_udp_create}
use Rattle.wasi_udp.specs.Create.{Create, after_create, new_asks}
use Rattle.host_store.specs.declared.kind.Interface.{Interface}
use Rattle.host_store.specs.declared.machine.Machine.{Machine}
use Rattle.wasi_records.specs.declared.records.Record.{Record}
use Rattle.udp_records.specs.declared.udp.UdpRecord.{UdpRecord}
use Rattle.udp_records.specs.declared.udp.UdpRecord.TheVariants.{Creating}
use Rattle.wasi_streams.specs.declared.fault.HostError.{HostError}
use Rattle.wasi_streams.specs.declared.fault.HostError.TheVariants as error
use Rattle.host_store.specs.BaseStops.{BaseStop, base_outcome, ends_as}
use Rattle.host_store.specs.Kinds.{make_asks, udp_kind}
use Rattle.wasi_records.specs.Records.{udp2_pushed}
use Rattle.record_common.specs.Sides.{Weight, Tally, no_socket, one_socket, made_in, closed_in}
use Rattle.host_store.specs.KnownSides.{KnowsSides}
use Rattle.host_store.specs.Store.{Records}
use Rattle.udp_records.specs.Udp.{udp_side}
use Rattle.host_udp.specs.UdpCreates.{with_create, udp_side_at, handle_made, mark_udp, create_on}
use Rattle.host_store.proofs.KnownSides.{knows_then}
use Rattle.wasi_records.proofs.UdpLookups.{held_in-udp_more}

-- == a create makes one network socket where it begins, and none where it is refused
abbrev begun_or_not : Result Create ErrorCode → Tally
begun_or_not (Ok create) = one_socket create.operation.who.side
begun_or_not (Err c) = no_socket

one_made : (w : Weight) (op : OpId) (n : ℕ) (family : SocketAddressFamily) (t : Told) → IsDoneOrCode t → (if is_done t then w op else 0) ≡ begun_or_not (after_create op n family (told_done t)) w
one_made w op n family told.Done h = refl
one_made w op n family (told.Code c) h = refl
one_made w op n family _ h = absurd h

record MadeSo (es : List Entry) (r : Result Create ErrorCode) : Type 0 where
  made : (w : Weight) → made_in es w ≡ begun_or_not r w
  closed : (w : Weight) → closed_in es w ≡ 0

begun : (op : OpId) (ctx : WasiSocketsCtx) (family : SocketAddressFamily) (b : Bool) (es : List Entry) (r : Result Create ErrorCode) → Left (if b then bind (ask_udp_create op ctx.name family) (λ t. Give (after_create op ctx.name family t)) else Give (Err AccessDenied)) es (Give r) → MadeSo es r
unfolding bind
begun op ctx family true [] r w = absurd (cc)
begun op ctx family true (e ∷ []) r w =
    let k : after_create op ctx.name family (told_done e.answer) ≡ r = cc in
    record {
      made = λ weight. rw (w.0.0, w.0.1, ← k) (let m = one_made weight op ctx.name family e.answer w.0.2 in omega arith);
      closed = λ weight. rw w.0.1 refl;
    }
begun op ctx family true (e ∷ f ∷ es) r w = absurd w.1
begun op ctx family false [] r w = let k : Err AccessDenied ≡ r = cc in rw (← k) (record { made = λ weight. refl; closed = λ weight. refl })
begun op ctx family false (e ∷ es) r w = absurd w

-- the store with the record of a create that began
abbrev pub with_creating : Records → Create → Records
with_creating store create = record store { records = udp2_pushed store.records (Creating create) }

pub knows_begun : (op : OpId) (ctx : WasiSocketsCtx) (family : SocketAddressFamily) {s t : Seen} (create : Create) (store : Records) → Reaches (new_asks op ctx family) (Give (Ok create)) s t → KnowsSides s store → KnowsSides t (with_creating store create)
knows_begun op ctx family create store h k =
    let m = begun op ctx family ctx.udp h.entries (Ok create) h.left in
    knows_then h.entries store (with_creating store create) h.passed (λ w. let made = m.made w in let closed = m.closed w in let more = held_in-udp_more w store.records (Creating create) in omega arith) k

pub knows_refused : (op : OpId) (ctx : WasiSocketsCtx) (family : SocketAddressFamily) {s t : Seen} (told : Result Create Refusal) (x : HostError ErrorCode) (store : Records) → ends_as {T = Create} (Err x) ≡ base_outcome told
    → AsksFor (new_asks op ctx family) s t (λ (made : Result Create ErrorCode). made) (outcome told) → OnErr (outcome told) (t ≡ s) → KnowsSides s store → KnowsSides t store
knows_refused op ctx family (Ok create) (error.Code c) store q h e k = absurd (cc)
knows_refused op ctx family (Ok create) (error.Trap c) store q h e k = absurd (cc)
knows_refused op ctx family (Ok create) (error.Memory c) store q h e k = absurd (cc)
knows_refused op ctx family (Err (refusal.Code c)) x store q h e k = let m = begun op ctx family ctx.udp h.ok.entries (Err c) h.ok.left in knows_then h.ok.entries store store h.ok.passed (λ w. let made = m.made w in let closed = m.closed w in omega arith) k
knows_refused op ctx family (Err (refusal.Memory d)) x store q h e k = rw e k

-- == its record is polled
pub begun_on : (face : Interface) (m : Machine) (ids : Ids) (create : Create) {place : ℕ} {records : List Record} {s t : Seen} {view : Result (Answer ℕ) BaseStop → Result (Answer ℕ) BaseStop × Machine} {o : Result (Result (Answer ℕ) BaseStop) AllocError} → place ≡ length m.store.records → records ≡ udp2_pushed m.store.records (Creating create)
    → AsksFor (create_on face (record { table = m.table; store = record { records = records; jobs = m.store.jobs; standing = m.store.standing; beside = m.store.beside; limits = m.store.limits } }) ids place) s t view o → AsksFor (create_on face (with_create m create) ids (length m.store.records)) s t view o
begun_on face m ids create p r h = rw (p, r) at h

-- == its handle
pub marked : (face : Interface) (m : Machine) (place : ℕ) (u : Option UdpRecord) (side : OpId) → Some side ≡ udp_side_at u → mark_udp face m place u ≡ bind (make_asks m.table side (udp_kind face place) None (Some side)) (λ made. Give (handle_made m made))
marked face m place None side h = absurd (cc)
marked face m place (Some u) side h = let e : side ≡ udp_side u = cc in rw e refl
