-- Calls that wait for pollables, as moves: one look at each, by the line that makes the call or by one that polls it, and pending
-- where none is ready.
use Rattle.std.specs.Prelude.{◌≡◌, ⊤, ℕ, not, Bool, true, false, if◌then◌else◌, List, [], ◌∷◌, ◌++◌, Option, Some, None, Result, Ok, Err}
use Rattle.wasi_walks.proofs.Words.{Accepts, Allows, Asks, Entry, Give, Has, Listening, Machine, Step, Stop, TcpRecord, WasiSocketsCtx, Watched, allows_then, ap, bind, handles_of, inl, inr, is_connect, is_nothing, kind_at, refl, subst, sym, watch_of}
use Rattle.wasi_world.specs.declared.ids.Ids.{Ids}
use Rattle.wasi_tcp.specs.declared.listener.Accepting.{Accepting}
use Rattle.wasi_tcp.specs.Listener.{has_accept, ids_after}
use Rattle.host_udp.specs.DatagramCalls.{incoming_names}
use Rattle.tcp_records.specs.Listening.{ids_of}
use Rattle.wasi_host.specs.Pollables.{ready_ids_on}
use Rattle.tcp_records.specs.Looks.{begins_accept, socket_begins}
use Rattle.udp_records.specs.Receiving.{would_receive, has_none}
use Rattle.wasi_host.specs.Polling.{Found, are_pollables, begins_at, begins_on, block_by, blocked_on, found_of, ids_after_look, look_at_pollable, look_each, look_later, look_once, looked_at, places_given, poll_asks, poll_by, poll_when, polled_each, ready_places, tcp_begins, udp_begins}
use Rattle.tcp_records.specs.Looks.{idle_ids, socket_ids}
use Rattle.host_store.specs.Readiness.{ready_ids_at}
use Rattle.udp_records.specs.Receiving.{fetch_names, look_names}
use Rattle.wasi_records.specs.Records.{open_at, tcp2_at}
use Rattle.host_store.specs.declared.store.BlockingCall.TheVariants as blocking
use Rattle.udp_records.specs.declared.datagrams.Incoming.{Incoming}
use Rattle.udp_records.specs.declared.datagrams.Receiving.{Receiving}
use Rattle.wasi_host.specs.declared.polling.Look.{Look}
use Rattle.wasi_host.specs.declared.polling.Look.TheVariants.{First, Later}
use Rattle.udp_records.specs.declared.udp.OpenUdp.{OpenUdp}
use Rattle.wasi_walks.specs.Licence.{Receives}
use Rattle.wasi_walks.proofs.walks.Here.{after, after_names, part_after}
use Rattle.wasi_walks.proofs.walks.Moves.{Calls, CallsHandles, Counts, Here, Leaves, LooksAtPollables, Names, NoStartStands, OfPollables, Own, SpendsNames, StandsBlocking, Unused, Used}
use Rattle.wasi_walks.proofs.walks.Law.{Law, Walks, and_then, ends, give, gives, move}
use Rattle.wasi_walks.proofs.walks.Looks.{Looked, Looking, connecting_begins, names_from, ready_walks}
use Rattle.wasi_walks.proofs.walks.States.{OverWith, Starts}

-- == the names that a look leaves to the line
accept_names : (n part : ℕ) (a : Accepting) → ids_after a (names_from n part) ≡ names_from n (part_after part (not (has_accept a)))
accept_names n part Accepting.Idle = refl
accept_names n part (Accepting.Asking op) = refl
accept_names n part (Accepting.Arrived new peer) = refl
accept_names n part (Accepting.Failed c) = refl

listening_names : (n part : ℕ) (l : Listening) → ids_of l (names_from n part) ≡ names_from n (part_after part (begins_accept l))
listening_names n part (Accepts l) = accept_names n part l.accept
listening_names n part _ = refl

idle_names : (n part : ℕ) (l : Listening) (idle : Bool) → idle_ids l (names_from n part) idle ≡ names_from n (part_after part (if idle then begins_accept l else false))
idle_names n part l true = listening_names n part l
idle_names n part l false = refl

socket_names : (n part : ℕ) (r : TcpRecord) (connects : Bool) → is_connect r.in_progress ≡ connects → socket_ids r (names_from n part) connects ≡ names_from n (part_after part (socket_begins r))
socket_names n part r true e = ap (λ (b : Bool). names_from n (part_after part b)) (sym (connecting_begins r e))
socket_names n part r false e = idle_names n part r.listening (is_nothing r.in_progress)

tcp_names : (n part place : ℕ) (o : Option TcpRecord) → ready_ids_at (names_from n part) (Watched.Socket place) o ≡ names_from n (part_after part (tcp_begins o))
tcp_names n part place None = refl
tcp_names n part place (Some r) = socket_names n part r (is_connect r.in_progress) refl

receiving_names : (n part : ℕ) (receiving : Receiving) → fetch_names receiving (names_from n part) ≡ names_from n (part_after part (has_none receiving))
receiving_names n part Receiving.Nothing = refl
receiving_names n part (Receiving.InProgress op) = refl
receiving_names n part (Receiving.Came d) = refl
receiving_names n part (Receiving.Failed c) = refl

udp_names : (n part : ℕ) (o : Option OpenUdp) → incoming_names (names_from n part) o ≡ names_from n (part_after part (udp_begins o))
udp_names n part None = refl
udp_names n part (Some o) = by_stream o.incoming
  where
    by_stream : (inc : Option Incoming) → look_names (names_from n part) inc ≡ names_from n (part_after part (would_receive inc))
    by_stream None = refl
    by_stream (Some inc) = receiving_names n part inc.receiving

-- an input or an output takes none
no_names : (ids : Ids) (w : Watched) (o : Option TcpRecord) → ready_ids_at ids w None ≡ ids → ((r : TcpRecord) → ready_ids_at ids w (Some r) ≡ ids) → ready_ids_at ids w o ≡ ids
no_names ids w None e k = e
no_names ids w (Some r) e k = k r

pub names_after : (m : Machine) (n part : ℕ) (o : Option Watched) → ready_ids_on m (names_from n part) o ≡ names_from n (part_after part (begins_on m.store o))
names_after m n part None = refl
names_after m n part (Some Watched.Plain) = refl
names_after m n part (Some (Watched.Incoming place)) = udp_names n part (open_at m.store.records place)
names_after m n part (Some (Watched.Socket place)) = tcp_names n part place (tcp2_at m.store.records place)
names_after m n part (Some (Watched.Input place)) = no_names _ (Watched.Input place) (tcp2_at m.store.records place) refl (λ r. refl)
names_after m n part (Some (Watched.Output place)) = no_names _ (Watched.Output place) (tcp2_at m.store.records place) refl (λ r. refl)
names_after m n part (Some (Watched.Udp place)) = no_names _ (Watched.Udp place) (tcp2_at m.store.records place) refl (λ r. refl)
names_after m n part (Some (Watched.Outgoing place)) = no_names _ (Watched.Outgoing place) (tcp2_at m.store.records place) refl (λ r. refl)
names_after m n part (Some (Watched.Lookup place)) = no_names _ (Watched.Lookup place) (tcp2_at m.store.records place) refl (λ r. refl)

-- == one look
-- what the line has begun: by its own looks it takes names, by those of a call that it polls none
abbrev pub own_in : Look → ℕ → Own
own_in First part = Names part
own_in Later part = Used

-- the first looks are those of the line, whose step names the pollables, and receives
abbrev pub MayLook : ℕ → Step → ℕ → List ℕ → Look → Type 0
MayLook line origin n handles First = (n ≡ line) × ((p : ℕ) → Has handles p → Has (handles_of origin) p) × Receives origin
MayLook line origin n handles Later = ⊤

module _ {contexts : List WasiSocketsCtx} {line : ℕ} {origin : Step} (law : Law contexts line origin) (n : ℕ) (handles : List ℕ) where
  -- A look, and the names that it leaves.
  record LookedSo (look : Look) (at : Option (ℕ × ℕ)) (m : Machine) (part p : ℕ) : Type 0 where
    next : ℕ
    names : ids_after_look look m (names_from n part) p ≡ names_from n next
    looked : Looked law n handles m (own_in look part) part at (own_in look next) (look_at_pollable look m (names_from n part) p)

  later_walks : (at : Option (ℕ × ℕ)) (m : Machine) (part p : ℕ) (begins : Bool) → Has handles p → begins_at m p ≡ begins → Looked law n handles m Used part at Used (look_later m (names_from n part) p begins)
  later_walks at m part p true named e = record { left = at; walks = give _ }
  later_walks at m part p false named e =
      let w = ready_walks law n handles m Used part at p named (watch_of (kind_at m.table p)) refl (λ t. absurd (not_both e t)) (λ t. absurd (not_both e t)) in
      record { left = w.left; walks = ends (λ done. ap (λ (b : Bool). Looking n handles w.left (after Used part b) done.1) e) w.walks }
    where
      not_both : {c : Bool} → c ≡ false → c ≡ true → ⊥
      not_both x y = absurd (cc)

  look_walks : (look : Look) → MayLook line origin n handles look → (at : Option (ℕ × ℕ)) (m : Machine) (part p : ℕ) → Has handles p → LookedSo look at m part p
  look_walks First may at m part p named =
      let begins = begins_at m p in
      let w = ready_walks law n handles m (Names part) part at p named (watch_of (kind_at m.table p)) refl (λ b. (may.0, refl)) (λ b. (may.1 p named, may.2)) in
      record {
        next = part_after part begins;
        names = names_after m n part (watch_of (kind_at m.table p));
        looked = record { left = w.left; walks = ends (λ done. ap (λ (own : Own). Looking n handles w.left own done.1) (after_names part begins)) w.walks };
      }
  look_walks Later may at m part p named = record { next = part; names = refl; looked = later_walks at m part p (begins_at m p) named refl }

  -- it begins no more
  looks_end : {A : Type 0} {end : A → Here} {asks : Asks A} (look : Look) (at : Option (ℕ × ℕ)) (part : ℕ) (m : Machine) → Walks law (Looking n handles at Used m) end asks → Walks law (Looking n handles at (own_in look part) m) end asks
  looks_end First at part m w = move (SpendsNames _ part refl) w
  looks_end Later at part m w = w

  -- == a call for one pollable
  blocked_walks : (at : Option (ℕ × ℕ)) (ids : Ids) (p : ℕ) → ids.line ≡ n → p ∷ [] ≡ handles → (looked : Result Bool Stop × Machine) → Walks law (Looking n handles at Used looked.1) OverWith (Give (blocked_on ids p looked))
  blocked_walks at ids p own its (Ok true, m) = gives _ (Leaves _)
  blocked_walks at ids p own its (Ok false, m) = move (StandsBlocking _ ids (blocking.Block p) handles (ap (λ (k : ℕ). Calls OfPollables k handles) (sym own)) its) (gives _ (Leaves _))
  blocked_walks at ids p own its (Err why, m) = gives _ (Leaves _)

  pub block_walks : (look : Look) → MayLook line origin n handles look → (p : ℕ) → p ∷ [] ≡ handles → {at : Option (ℕ × ℕ)} (m : Machine) (part : ℕ) → Walks law (Looking n handles at (own_in look part) m) OverWith (block_by look m (names_from n part) p)
  block_walks look may p its m part =
      let l = look_walks look may _ m part p (subst (λ (xs : List ℕ). Has xs p) its (inl refl)) in
      and_then l.looked.walks (λ done. looks_end look l.looked.left l.next done.1 (blocked_walks l.looked.left (names_from n part) p refl its done))

  -- == a call for several
  -- The line is at some record, and has taken some names.
  record SomeLook (look : Look) (es : List Entry) (m : Machine) : Type 0 where
    at : Option (ℕ × ℕ)
    part : ℕ
    holds : law.Inv es (Looking n handles at (own_in look part) m)

  record LooksOn (look : Look) (h : Here) (asks : Asks (Result Found Stop × Machine)) : Type 0 where
    along : (es : List Entry) → law.Inv es h → Allows law.P (λ fs done. SomeLook look fs done.1) es asks

  looks_then : {h : Here} {mid : Result Bool Stop × Machine → Here} {asks : Asks (Result Bool Stop × Machine)} {f : Result Bool Stop × Machine → Asks (Result Found Stop × Machine)} (look : Look)
      → Walks law h mid asks → ((done : Result Bool Stop × Machine) → LooksOn look (mid done) (f done)) → LooksOn look h (bind asks f)
  looks_then {mid = mid} {asks = asks} {f = f} look w k = record { along = λ es i. allows_then law.P (λ fs done. law.Inv fs (mid done)) (λ fs done. SomeLook look fs done.1) es asks f (w.along es i) (λ fs done j. (k done).along fs j) }

  module _ (look : Look) (may : MayLook line origin n handles look) where
    -- how the looks continue
    abbrev EachWalks : List ℕ → Type 0
    EachWalks pollables = (at : Option (ℕ × ℕ)) (m : Machine) (part : ℕ) (found : Found) → LooksOn look (Looking n handles at (own_in look part) m) (look_each look pollables m (names_from n part) found)

    told_walks : (pollables : List ℕ) (p : ℕ) → EachWalks pollables → (found : Found) (left : Option (ℕ × ℕ)) (next : ℕ) (ids : Ids) → ids ≡ names_from n next → (done : Result Bool Stop × Machine) → LooksOn look (Looking n handles left (own_in look next) done.1) (looked_at ids found p (look_each look pollables) done)
    told_walks pollables p goes found left next ids e (Ok ready, now) = subst (λ (x : Ids). LooksOn look (Looking n handles left (own_in look next) now) (look_each look pollables now x (found ++ (p, ready) ∷ []))) (sym e) (goes left now next (found ++ (p, ready) ∷ []))
    told_walks pollables p goes found left next ids e (Err why, now) = record { along = λ es i. record { at = left; part = next; holds = i } }

    once_walks : (pollables : List ℕ) (p : ℕ) → Has handles p → EachWalks pollables → (at : Option (ℕ × ℕ)) (m : Machine) (part : ℕ) (found : Found) (o : Option Bool) → LooksOn look (Looking n handles at (own_in look part) m) (look_once look m (names_from n part) found p (look_each look pollables) o)
    once_walks pollables p named goes at m part found (Some ready) = goes at m part found
    once_walks pollables p named goes at m part found None =
        let l = look_walks look may at m part p named in looks_then look l.looked.walks (told_walks pollables p goes found l.looked.left l.next (ids_after_look look m (names_from n part) p) l.names)

    each_walks : (pollables : List ℕ) → ((p : ℕ) → Has pollables p → Has handles p) → EachWalks pollables
    each_walks [] all at m part found = record { along = λ es i. record { at = at; part = part; holds = i } }
    each_walks (p ∷ pollables) all at m part found = once_walks pollables p (all p (inl refl)) (each_walks pollables (λ q k. all q (inr k))) at m part found (found_of found p)

    placed_walks : (at : Option (ℕ × ℕ)) (ids : Ids) (pollables : List ℕ) → ids.line ≡ n → pollables ≡ handles → (m : Machine) (places : List ℕ) → Walks law (Looking n handles at Used m) OverWith (Give (places_given ids pollables m places))
    placed_walks at ids pollables own its m [] = move (StandsBlocking _ ids (blocking.Poll pollables) handles (ap (λ (k : ℕ). Calls OfPollables k handles) (sym own)) its) (gives _ (Leaves _))
    placed_walks at ids pollables own its m (k ∷ places) = gives _ (Leaves _)

    polled_walks : (at : Option (ℕ × ℕ)) (ids : Ids) (pollables : List ℕ) → ids.line ≡ n → pollables ≡ handles → (done : Result Found Stop × Machine) → Walks law (Looking n handles at Used done.1) OverWith (Give (polled_each ids pollables done))
    polled_walks at ids pollables own its (Ok found, m) = placed_walks at ids pollables own its m (ready_places found 0 pollables)
    polled_walks at ids pollables own its (Err why, m) = gives _ (Leaves _)

    pub poll_walks : (pollables : List ℕ) → pollables ≡ handles → {at : Option (ℕ × ℕ)} (m : Machine) (part : ℕ) → Walks law (Looking n handles at (own_in look part) m) OverWith (poll_by look m (names_from n part) pollables)
    poll_walks pollables its {at} m part =
        let ids = names_from n part in
        record {
          along = λ es i.
              allows_then law.P (λ fs done. SomeLook look fs done.1) (λ fs done. law.Inv fs (OverWith done)) es (look_each look pollables m ids []) (λ done. Give (polled_each ids pollables done))
              ((each_walks pollables (λ p k. subst (λ (xs : List ℕ). Has xs p) its k) at m part []).along es i)
              (λ fs done l. (looks_end look l.at l.part done.1 (polled_walks l.at ids pollables refl its done)).along fs l.holds);
        }

module _ {contexts : List WasiSocketsCtx} {line : ℕ} {origin : Step} {law : Law contexts line origin} where
  -- == the looks of a line
  pub looks_begin : {A : Type 0} {m : Machine} {end : A → Here} {asks : Asks A} → LooksAtPollables origin → NoStartStands m.store.standing → Walks law (Looking line (handles_of origin) None (Names 1) m) end asks → Walks law (Starts m Unused) end asks
  looks_begin is q w = move (CallsHandles _ OfPollables is q) (move (Counts _ refl) w)

  pub ready_asks_walks : (m : Machine) → NoStartStands m.store.standing → (p : ℕ) → Has (handles_of origin) p → LooksAtPollables origin → Receives origin → {A : Type 0} (reply : Result Bool Stop → A) → Walks law (Starts m Unused) OverWith (bind (look_at_pollable First m (names_from line 1) p) (λ done. Give (reply done.0, done.1)))
  ready_asks_walks m q p named is receives reply =
      let l = look_walks law line (handles_of origin) First (refl, (λ q k. k), receives) None m 1 p named in
      looks_begin is q (and_then l.looked.walks (λ done. looks_end law line (handles_of origin) First l.looked.left l.next done.1 (gives _ (Leaves _))))

  -- every handle is tested before
  poll_when_walks : Receives origin → (m : Machine) (pollables : List ℕ) → pollables ≡ handles_of origin → (b : Bool) → Walks law (Looking line (handles_of origin) None (Names 1) m) OverWith (poll_when m (names_from line 1) pollables b)
  poll_when_walks receives m pollables its true = poll_walks law line (handles_of origin) First (refl, (λ q k. k), receives) pollables its m 1
  poll_when_walks receives m pollables its false = move (SpendsNames _ 1 refl) (gives _ (Leaves _))

  pub poll_asks_walks : Receives origin → (m : Machine) (pollables : List ℕ) → pollables ≡ handles_of origin → Walks law (Looking line (handles_of origin) None (Names 1) m) OverWith (poll_asks m (names_from line 1) pollables)
  poll_asks_walks receives m [] its = move (SpendsNames _ 1 refl) (gives _ (Leaves _))
  poll_asks_walks receives m (p ∷ pollables) its = poll_when_walks receives m (p ∷ pollables) its (are_pollables m (p ∷ pollables))
