-- Handles in the table: each is older than the next one; and the handle under which datagram streams are made, or are to be made by a
-- pending call, is of no other UDP socket than theirs.
use Rattle.wasi_walks.proofs.Words.{End, Err, ErrorCode, HandleTable, Item, Kind, List, None, Ok, Operation, Option, Result, Some, Standing, StandingCall, Step, TcpRecord}
use Rattle.wasi_walks.proofs.Words.{ap, arith, inl, inr, kind_at, refl, standing_as, subst, sym, table_parent, with_handle, without_handle, ℕ, ⊤, ◌<◌, ◌≤◌, ◌≡◌, ◌∙◌, ◌⊎◌}
use Rattle.wasi_table.proofs.Tables.{value_without}
use Rattle.wasi_udp.specs.Create.{Create}
use Rattle.host_store.specs.Kinds.{udp_of}
use Rattle.wasi_walks.proofs.Lists.{value_split}
use Rattle.wasi_walks.proofs.walks.Moves as walk
use Rattle.wasi_walks.proofs.walks.Moves.{GoesOn, Held, Here, Made, Move, Past, ToStream, made_so, udp_begun}

-- each is older than the next one
abbrev pub AreOlder : HandleTable → Type 0
AreOlder t = (k : ℕ) (kind : Kind) → kind_at t k ≡ Some kind → k < t.next

-- The handle is older, and of no other UDP socket than the one with this record.
pub record IsUnder (t : HandleTable) (handle place : ℕ) : Type 0 where
  pub older : handle < t.next
  pub of : (other : ℕ) → udp_of (kind_at t handle) ≡ Some other → other ≡ place

abbrev pub MakesUnder : HandleTable → Made → Type 0
MakesUnder t (ToStream n handle place) = IsUnder t handle place
MakesUnder t _ = ⊤

abbrev pub CallUnder : HandleTable → StandingCall → Type 0
CallUnder t (StandingCall.UdpConnect place handle) = IsUnder t handle place
CallUnder t _ = ⊤

abbrev pub StandsUnder : HandleTable → Option Standing → Type 0
StandsUnder t None = ⊤
StandsUnder t (Some s) = CallUnder t s.call

-- All of this.
pub record AreUnder (t : HandleTable) (made : Made) (standing : Option Standing) : Type 0 where
  pub older : AreOlder t
  pub makes : MakesUnder t made
  pub stands : StandsUnder t standing

abbrev pub Under : Here → Type 0
Under h = AreUnder h.machine.table h.made h.machine.store.standing

-- == the table changes
-- where each handle is of what it was, and the next one no older
module _ (t now : HandleTable) (later : t.next ≤ now.next) (same : (handle : ℕ) (kind : Kind) → handle < t.next → kind_at now handle ≡ Some kind → kind_at t handle ≡ Some kind) where
  is_under : (handle place : ℕ) → IsUnder t handle place → IsUnder now handle place
  is_under handle place i = record {
    older = (let p = i.older in omega arith);
    of = λ other e. by_kind other (kind_at now handle) refl e;
  }
    where
      by_kind : (other : ℕ) (o : Option Kind) → kind_at now handle ≡ o → udp_of o ≡ Some other → other ≡ place
      by_kind other None g e = absurd (cc)
      by_kind other (Some kind) g e = i.of other (ap udp_of (same handle kind i.older g) ∙ e)

  pub makes_under : (made : Made) → MakesUnder t made → MakesUnder now made
  makes_under (ToStream n handle place) i = is_under handle place i
  makes_under _ i = tt

  call_under : (call : StandingCall) → CallUnder t call → CallUnder now call
  call_under (StandingCall.UdpConnect place handle) i = is_under handle place i
  call_under _ i = tt

  pub stands_under : (standing : Option Standing) → StandsUnder t standing → StandsUnder now standing
  stands_under None i = tt
  stands_under (Some s) i = call_under s.call i

-- with one handle more
module _ (t : HandleTable) (kind : Kind) (parent : Option ℕ) where
  abbrev pub more : HandleTable
  more = with_handle t kind parent

  -- a handle is one of before, or the new one
  pub was_or_new : (handle : ℕ) (its : Kind) → kind_at more handle ≡ Some its → (kind_at t handle ≡ Some its) ⊎ ((t.next ≡ handle) × (kind ≡ its))
  was_or_new handle its e = value_split t.live (record { handle = t.next; value = kind; parent = table_parent kind parent }) handle its e

  same_older : (handle : ℕ) (its : Kind) → handle < t.next → kind_at more handle ≡ Some its → kind_at t handle ≡ Some its
  same_older handle its l e = elim (was_or_new handle its e) [ inl was ↦ was | inr new ↦ (let n = new.0 in absurd (omega arith)) ]

  older_more : AreOlder t → AreOlder more
  older_more i k its e = elim (was_or_new k its e) [ inl was ↦ (let l = i k its was in omega arith) | inr new ↦ (let n = new.0 in omega arith) ]

  pub under_so : (made : Made) (standing : Option Standing) → AreOlder t → MakesUnder more made → StandsUnder t standing → AreUnder more made standing
  under_so made standing older makes stands = record { older = older_more older; makes = makes; stands = stands_under t more (omega arith) same_older standing stands }

  pub makes_more : (made : Made) → MakesUnder t made → MakesUnder more made
  makes_more made i = makes_under t more (omega arith) same_older made i

-- with one handle less
pub under_without : (t : HandleTable) (handle : ℕ) (made now : Made) (standing : Option Standing) → (MakesUnder t made → MakesUnder (without_handle t handle) now) → AreUnder t made standing → AreUnder (without_handle t handle) now standing
under_without t handle made now standing f i = record {
  older = λ k kind e. i.older k kind (value_without t.live handle k kind e);
  makes = f i.makes;
  stands = stands_under t (without_handle t handle) (omega arith) (λ k kind l e. value_without t.live handle k kind e) standing i.stands;
}

pub makes_without : (t : HandleTable) (handle : ℕ) (made : Made) → MakesUnder t made → MakesUnder (without_handle t handle) made
makes_without t handle made i = makes_under t (without_handle t handle) (omega arith) (λ k kind l e. value_without t.live handle k kind e) made i

-- == moves
-- what was made is nothing of streams
pub nothing_made : (t : HandleTable) (made : Made) (standing : Option Standing) → AreUnder t made standing → AreUnder t Past standing
nothing_made t made standing i = record { older = i.older; makes = tt; stands = i.stands }

stands_so : (t : HandleTable) (made : Made) (was now : Option Standing) → StandsUnder t now → AreUnder t made was → AreUnder t made now
stands_so t made was now s i = record { older = i.older; makes = i.makes; stands = s }

goes_under : (t : HandleTable) (call : StandingCall) (r : TcpRecord) → GoesOn call r → CallUnder t call
goes_under t (StandingCall.UdpConnect place handle) r k = absurd k
goes_under t (StandingCall.UdpConnect3 place) r k = absurd k
goes_under t (StandingCall.Listen place marks) r k = absurd k
goes_under t _ r k = tt

-- the handle that the line names is of this record
reached_under : (t : HandleTable) (handle place : ℕ) → AreOlder t → udp_of (kind_at t handle) ≡ Some place → IsUnder t handle place
reached_under t handle place older e = by_kind (kind_at t handle) refl e
  where
    by_kind : (o : Option Kind) → kind_at t handle ≡ o → udp_of o ≡ Some place → IsUnder t handle place
    by_kind None g d = absurd (cc)
    by_kind (Some kind) g d = record { older = older handle kind g; of = λ other k. (let p : Some other ≡ Some place = sym k ∙ e in cc) }

pub moves_under : {line : ℕ} {origin : Step} (h now : Here) → Move line origin h now → Under h → Under now
moves_under _ _ (walk.Leaves h) i = nothing_made _ _ _ i
moves_under _ _ (walk.Numbers h) i = record { older = i.older; makes = tt; stands = i.stands }
moves_under _ _ (walk.Watches h own) i = record { older = i.older; makes = tt; stands = i.stands }
moves_under _ _ (walk.CallsHandles h kind calls quiet) i = record { older = i.older; makes = tt; stands = i.stands }
moves_under _ _ (walk.RecallsCall h ids call e) i = record { older = i.older; makes = tt; stands = i.stands }
moves_under _ _ (walk.AwaitsCreate h place face create is g) i = record { older = i.older; makes = tt; stands = i.stands }
moves_under _ _ (walk.Joins h c handle place r l new peer is of u g e a) i = record { older = i.older; makes = tt; stands = i.stands }
moves_under _ _ (walk.JoinsPlain h c listener remaining place r l new peer is of u g e a) i = record { older = i.older; makes = tt; stands = i.stands }
moves_under _ _ (walk.JoinsFault h place r l c u g e a) i = record { older = i.older; makes = tt; stands = i.stands }
moves_under _ _ (walk.RemembersListen h marks place r is under g none) i = record { older = i.older; makes = tt; stands = i.stands }
moves_under _ _ (walk.RecallsListen h ids place marks e) i = record { older = i.older; makes = tt; stands = i.stands }
moves_under _ _ (walk.StandsListen h ids place marks r quiet at made g goes) i = stands_so _ _ _ (Some (standing_as ids (StandingCall.Listen place marks))) tt i
moves_under _ _ (walk.AddsSlot h s) i = record { older = i.older; makes = tt; stands = i.stands }
moves_under _ _ (walk.Frees h place made) i = record { older = i.older; makes = tt; stands = i.stands }
moves_under _ _ (walk.IsUnheld h place r g free) i = record { older = i.older; makes = tt; stands = i.stands }
moves_under _ _ (walk.RemembersStreams h c handle place remote is of o g none) i = record { older = i.older; makes = reached_under h.machine.table handle place i.older of; stands = i.stands }
moves_under _ _ (walk.RecallsStreams h ids place handle e own) i = record { older = i.older; makes = subst (StandsUnder h.machine.table) e i.stands; stands = i.stands }
moves_under _ _ (walk.Stands h ids call r quiet at g k) i = stands_so _ _ _ (Some (standing_as ids call)) (goes_under h.machine.table call r k) i
moves_under _ _ (walk.Unstands h over) i = stands_so _ _ _ None tt i
moves_under _ _ (walk.StandsUdpBind h ids place face o op quiet at g e) i = stands_so _ _ _ (Some (standing_as ids (StandingCall.UdpBind place face))) tt i
moves_under _ _ (walk.StandsUdpCreate h ids place face create quiet m g its) i = stands_so _ _ _ (Some (standing_as ids (StandingCall.UdpCreate place face))) tt i
moves_under _ _ (walk.StandsDropOutgoing h ids place o quiet at g e) i = stands_so _ _ _ (Some (standing_as ids (StandingCall.DropOutgoing place))) tt i
moves_under _ _ (walk.StandsBlocking h ids call handles made its) i = stands_so _ _ _ (Some (standing_as ids (StandingCall.Blocking call))) tt i
moves_under _ _ (walk.StandsConnect h ids place o op quiet at past g e) i = stands_so _ _ _ (Some (standing_as ids (StandingCall.UdpConnect3 place))) tt i
moves_under _ _ (walk.StandsUdpConnect h ids place handle o op quiet at made g e) i = stands_so _ _ _ (Some (standing_as ids (StandingCall.UdpConnect place handle))) (subst (MakesUnder h.machine.table) made i.makes) i
moves_under _ _ (walk.Empties h handle kind quiet e none) i = under_without h.machine.table handle h.made (walk.Emptied kind) _ (λ k. tt) i
moves_under _ _ (walk.Takes h handle quiet past none) i = under_without h.machine.table handle h.made h.made _ (makes_without h.machine.table handle h.made) i
moves_under _ _ _ i = i

-- == what leaves all of it
-- a poll
pub polled_same : (P : HandleTable → Made → Option Standing → Type 0) (h : Here) (op : Operation) (after : End × List Item → Here) → Held h op after → (end : End × List Item) → P h.machine.table h.made h.machine.store.standing → P (after end).machine.table (after end).made (after end).machine.store.standing
polled_same P h _ _ (walk.BindsOn place r op q g e) end i = i
polled_same P h _ _ (walk.Connects place r op g e) end i = i
polled_same P h _ _ (walk.Listens place r op q g e c) end i = i
polled_same P h _ _ (walk.Awaits place r l op g e a) end i = i
polled_same P h _ _ (walk.UdpCreates place create q g) end i = i
polled_same P h _ _ (walk.UdpBindsOn place o op q g e) end i = i
polled_same P h _ _ (walk.UdpConnectsOn place o op q g e) end i = i
polled_same P h _ _ (walk.UdpReconnectsOn place o op q g e) end i = i
polled_same P h _ _ (walk.SendsOn place o out op left g e s settles) end i = i
polled_same P h _ _ (walk.ReceivesOn place o inc op g e s) end i = i

-- a create
pub begun_same : (P : HandleTable → Made → Option Standing → Type 0) (h : Here) (made : Result Create ErrorCode) → P h.machine.table h.made h.machine.store.standing → P (udp_begun h made).machine.table (udp_begun h made).made (udp_begun h made).machine.store.standing
begun_same P h (Ok create) i = i
begun_same P h (Err c) i = i
