-- At which pollables a wait looks, what it finds of each, and the places that it answers.
use Rattle.wasi_causes.proofs.Words.{◌≡◌, ◌∙◌, ◌==◌, ◌+◌, ℕ, zero, suc, arith, Bool, true, false, if◌then◌else◌, List, [], ◌∷◌, Option, Some, None, IsSomeAnd, Has, InProgress, Machine, TcpRecord, Watched, refl, subst, ap, inl, inr, eqb-true, eq-eqb, is_connect, is_nothing, not, slice_get, watch_of, kind_at, ◌↔◌}
use Rattle.std.specs.Prelude.{◌≤◌, ◌⊎◌}
use Rattle.wasi_world.specs.declared.ids.Ids.{Ids}
use Rattle.wasi_tcp.specs.declared.listener.Accepting.{Accepting}
use Rattle.wasi_tcp.specs.declared.listener.Accepting.TheVariants as accepting
use Rattle.wasi_tcp.specs.Listener.{has_accept, ids_after}
use Rattle.tcp_records.specs.declared.tcp_binding.AsyncOperation.TheVariants as operation
use Rattle.tcp_records.specs.declared.tcp_binding.InProgress.TheVariants as doing
use Rattle.udp_records.specs.declared.datagrams.Incoming.{Incoming}
use Rattle.udp_records.specs.declared.datagrams.Receiving.{Receiving}
use Rattle.udp_records.specs.declared.datagrams.Receiving.TheVariants as receiving
use Rattle.host_store.specs.declared.kind.Watched.TheVariants as watched
use Rattle.tcp_records.specs.declared.tcp_listening.Listening.{Listening}
use Rattle.tcp_records.specs.declared.tcp_listening.Listening.TheVariants as listening
use Rattle.wasi_host.specs.declared.polling.Look.{Look}
use Rattle.udp_records.specs.declared.udp.OpenUdp.{OpenUdp}
use Rattle.host_udp.specs.DatagramCalls.{incoming_names}
use Rattle.tcp_records.specs.Listening.{ids_of}
use Rattle.wasi_host.specs.Pollables.{ids_after_ready, ready_ids_on}
use Rattle.record_common.specs.Names.{names_after}
use Rattle.tcp_records.specs.Looks.{begins_accept}
use Rattle.udp_records.specs.Receiving.{would_receive, has_none}
use Rattle.wasi_host.specs.Polling.{Found, begins_at, begins_on, found_of, is_ready, ready_places, tcp_begins, udp_begins}
use Rattle.tcp_records.specs.Looks.{idle_ids, socket_ids}
use Rattle.host_store.specs.Readiness.{ready_ids, ready_ids_at}
use Rattle.wasi_records.specs.Records.{open_at, tcp2_at}
use Rattle.udp_records.specs.Receiving.{fetch_names, look_names}
use Rattle.wasi_world.specs.declared.call.Entry.{Entry}
use Rattle.wasi_causes.specs.PollableCalls.{AreDifferent, LooksInTurn, NoMore, OneMore, RisesFrom, different, is_among, not_among, pollables_of}

-- == the names that a look takes
module _ (ids : Ids) where
  abbrev pub Taking : Bool → Ids
  Taking begins = if begins then names_after ids else ids

  by_accept : (l : Listening) → ids_of l ids ≡ Taking (begins_accept l)
  by_accept (listening.Accepts l) = of l.accept
    where
      of : (a : Accepting) → ids_after a ids ≡ Taking (not (has_accept a))
      of accepting.Idle = refl
      of _ = refl
  by_accept _ = refl

  by_progress : (doing : InProgress) (l : Listening) → (if is_connect doing then ids else idle_ids l ids (is_nothing doing)) ≡ Taking (if is_nothing doing then begins_accept l else false)
  by_progress doing.Nothing l = by_accept l
  by_progress (doing.Started operation.Connect) l = refl
  by_progress (doing.Started _) l = refl
  by_progress _ l = refl

  by_connect : (r : TcpRecord) (b : Bool) → socket_ids r ids b ≡ (if b then ids else idle_ids r.listening ids (is_nothing r.in_progress))
  by_connect r true = refl
  by_connect r false = refl

  by_socket : (place : ℕ) (o : Option TcpRecord) → ready_ids_at ids (watched.Socket place) o ≡ Taking (tcp_begins o)
  by_socket place None = refl
  by_socket place (Some r) = by_connect r (is_connect r.in_progress) ∙ by_progress r.in_progress r.listening

  by_receiving : (s : Receiving) → fetch_names s ids ≡ Taking (has_none s)
  by_receiving receiving.Nothing = refl
  by_receiving _ = refl

  by_incoming : (o : Option Incoming) → look_names ids o ≡ Taking (would_receive o)
  by_incoming None = refl
  by_incoming (Some inc) = by_receiving inc.receiving

  by_udp : (o : Option OpenUdp) → incoming_names ids o ≡ Taking (udp_begins o)
  by_udp None = refl
  by_udp (Some o) = by_incoming o.incoming

  other_ids : (w : Watched) (o : Option TcpRecord) → ((r : TcpRecord) → ready_ids ids w r ≡ ids) → ready_ids_at ids w o ≡ ids
  other_ids w None same = refl
  other_ids w (Some r) same = same r

  module _ (m : Machine) where
    by_watch : (o : Option Watched) → ready_ids_on m ids o ≡ Taking (begins_on m.store o)
    by_watch None = refl
    by_watch (Some watched.Plain) = refl
    by_watch (Some (watched.Incoming place)) = by_udp (open_at m.store.records place)
    by_watch (Some (watched.Socket place)) = by_socket place (tcp2_at m.store.records place)
    by_watch (Some (watched.Input place)) = other_ids (watched.Input place) (tcp2_at m.store.records place) (λ r. refl)
    by_watch (Some (watched.Output place)) = other_ids (watched.Output place) (tcp2_at m.store.records place) (λ r. refl)
    by_watch (Some (watched.Udp place)) = other_ids (watched.Udp place) (tcp2_at m.store.records place) (λ r. refl)
    by_watch (Some (watched.Outgoing place)) = other_ids (watched.Outgoing place) (tcp2_at m.store.records place) (λ r. refl)
    by_watch (Some (watched.Lookup place)) = other_ids (watched.Lookup place) (tcp2_at m.store.records place) (λ r. refl)

    -- a look that begins an operation takes the next name, and another takes none
    pub takes_so : (p : ℕ) (begins : Bool) → begins_at m p ≡ begins → ids_after_ready m ids p ≡ Taking begins
    takes_so p begins e = by_watch (watch_of (kind_at m.table p)) ∙ ap Taking e

-- == the different ones
before_too : (before ps : List ℕ) (p : ℕ) → Has (not_among before ps) p → Has ps p
before_too before [] p h = absurd h
before_too before (q ∷ ps) p h = by (is_among before q) h (λ k. before_too before ps p k) (λ k. before_too (q ∷ before) ps p k)
  where
    by : (b : Bool) → Has (if b then not_among before ps else q ∷ not_among (q ∷ before) ps) p → (Has (not_among before ps) p → Has ps p) → (Has (not_among (q ∷ before) ps) p → Has ps p) → Has (q ∷ ps) p
    by true k same new = inr (same k)
    by false (inl e) same new = inl e
    by false (inr k) same new = inr (new k)

-- it is one of those before, or of the others
seen : (before : List ℕ) (q p : ℕ) → is_among (q ∷ before) p ≡ true → (q ≡ p) ⊎ (is_among before p ≡ true)
seen before q p h = by (q == p) refl h
  where
    by : (b : Bool) → (q == p) ≡ b → (if b then true else is_among before p) ≡ true → (q ≡ p) ⊎ (is_among before p ≡ true)
    by true e k = inl (eqb-true q p e)
    by false e k = inr k

kept_too : (before ps : List ℕ) (p : ℕ) → Has ps p → (is_among before p ≡ true) ⊎ Has (not_among before ps) p
kept_too before [] p h = absurd h
kept_too before (q ∷ ps) p h = by (is_among before q) refl h (λ k. kept_too before ps p k) (λ k. kept_too (q ∷ before) ps p k)
  where
    by : (b : Bool) → is_among before q ≡ b → Has (q ∷ ps) p → (Has ps p → (is_among before p ≡ true) ⊎ Has (not_among before ps) p) → (Has ps p → (is_among (q ∷ before) p ≡ true) ⊎ Has (not_among (q ∷ before) ps) p)
        → (is_among before p ≡ true) ⊎ Has (if b then not_among before ps else q ∷ not_among (q ∷ before) ps) p
    by true e (inl is) same new = inl (subst (λ (k : ℕ). is_among before k ≡ true) is e)
    by true e (inr k) same new = same k
    by false e (inl is) same new = inr (inl is)
    by false e (inr k) same new = elim (new k) [
      | inl was ↦ elim (seen before q p was) [ inl is ↦ inr (inl is) | inr old ↦ inl old ]
      | inr rest ↦ inr (inr rest)
    ]

pub same_ones : (ps : List ℕ) (p : ℕ) → Has (different ps) p ↔ Has ps p
same_ones ps p = (λ h. before_too [] ps p h, λ h. elim (kept_too [] ps p h) [ inl none ↦ absurd (cc) | inr k ↦ k ])

none_before : (before ps : List ℕ) (p : ℕ) → Has (not_among before ps) p → is_among before p ≡ false
none_before before [] p h = absurd h
none_before before (q ∷ ps) p h = by (is_among before q) refl h (λ k. none_before before ps p k) (λ k. none_before (q ∷ before) ps p k)
  where
    unseen : (b : Bool) → (if b then true else is_among before p) ≡ false → is_among before p ≡ false
    unseen true k = absurd (cc)
    unseen false k = k

    by : (b : Bool) → is_among before q ≡ b → Has (if b then not_among before ps else q ∷ not_among (q ∷ before) ps) p → (Has (not_among before ps) p → is_among before p ≡ false) → (Has (not_among (q ∷ before) ps) p → is_among (q ∷ before) p ≡ false) → is_among before p ≡ false
    by true e k same new = same k
    by false e (inl is) same new = subst (λ (k : ℕ). is_among before k ≡ false) is e
    by false e (inr k) same new = unseen (q == p) (new k)

all_differ : (before ps : List ℕ) → AreDifferent (not_among before ps)
all_differ before [] = tt
all_differ before (q ∷ ps) = by (is_among before q) (all_differ before ps) (all_differ (q ∷ before) ps)
  where
    not_itself : Has (not_among (q ∷ before) ps) q → ⊥
    not_itself h = let none : (if q == q then true else is_among before q) ≡ false = none_before (q ∷ before) ps q h in let same : (if q == q then true else is_among before q) ≡ true = ap (λ (b : Bool). if b then true else is_among before q) (eq-eqb q q refl) in cc

    by : (b : Bool) → AreDifferent (not_among before ps) → AreDifferent (not_among (q ∷ before) ps) → AreDifferent (if b then not_among before ps else q ∷ not_among (q ∷ before) ps)
    by true same new = same
    by false same new = (not_itself, new)

pub none_twice : (ps : List ℕ) → AreDifferent (different ps)
none_twice ps = all_differ [] ps

-- each is found once, in turn
pub found_each : {look : Look} (m : Machine) (ids : Ids) (ps : List ℕ) (es : List Entry) (found : Found) (after : Machine) → LooksInTurn look m ids ps es found after → pollables_of found ≡ ps
found_each _ _ _ _ _ _ (NoMore m ids) = refl
found_each _ _ _ _ _ _ (OneMore m mid after ids p others es fs ready found k looks) = ap (λ (qs : List ℕ). p ∷ qs) (found_each mid _ others fs found after looks)

-- == their places
module _ (found : Found) where
  abbrev WasReady : ℕ → Type 0
  WasReady p = found_of found p ≡ Some true

  was_ready : (o : Option Bool) → is_ready o ≡ true → o ≡ Some true
  was_ready None e = absurd (cc)
  was_ready (Some b) e = ap Some e

  -- so many places on
  record IsPlace (k : ℕ) (ps : List ℕ) (n : ℕ) : Type 0 where
    pub on : ℕ
    pub is : n ≡ k + on
    pub found_ready : IsSomeAnd (slice_get ps on) WasReady

  next_place : (k n p : ℕ) (ps : List ℕ) → IsPlace (suc k) ps n → IsPlace k (p ∷ ps) n
  next_place k n p ps h = record { on = suc h.on; is = let e = h.is in omega arith; found_ready = h.found_ready }

  of_place : (k n : ℕ) (ps : List ℕ) → Has (ready_places found k ps) n → IsPlace k ps n
  of_place k n [] h = absurd h
  of_place k n (p ∷ ps) h = by (is_ready (found_of found p)) refl h (λ r. of_place (suc k) n ps r)
    where
      by : (b : Bool) → is_ready (found_of found p) ≡ b → Has (if b then k ∷ ready_places found (suc k) ps else ready_places found (suc k) ps) n → (Has (ready_places found (suc k) ps) n → IsPlace (suc k) ps n) → IsPlace k (p ∷ ps) n
      by true e (inl is) rest = record { on = 0; is = omega arith; found_ready = was_ready (found_of found p) e }
      by true e (inr r) rest = next_place k n p ps (rest r)
      by false e r rest = next_place k n p ps (rest r)

  to_place : (k on : ℕ) (ps : List ℕ) → IsSomeAnd (slice_get ps on) WasReady → Has (ready_places found k ps) (k + on)
  to_place k on [] h = absurd h
  to_place k zero (p ∷ ps) h = by (is_ready (found_of found p)) (ap is_ready h)
    where
      by : (b : Bool) → b ≡ true → Has (if b then k ∷ ready_places found (suc k) ps else ready_places found (suc k) ps) (k + 0)
      by true e = inl (omega arith)
      by false e = absurd (cc)
  to_place k (suc on) (p ∷ ps) h = by (is_ready (found_of found p)) (to_place (suc k) on ps h)
    where
      moved : Has (ready_places found (suc k) ps) (suc k + on) → Has (ready_places found (suc k) ps) (k + suc on)
      moved r = let same : suc k + on ≡ k + suc on = omega arith in subst (Has (ready_places found (suc k) ps)) same r

      by : (b : Bool) → Has (ready_places found (suc k) ps) (suc k + on) → Has (if b then k ∷ ready_places found (suc k) ps else ready_places found (suc k) ps) (k + suc on)
      by true r = inr (moved r)
      by false r = moved r

  pub exact_places : (ps : List ℕ) (n : ℕ) → Has (ready_places found 0 ps) n ↔ IsSomeAnd (slice_get ps n) WasReady
  exact_places ps n = (
    λ h. let k = of_place 0 n ps h in let same : k.on ≡ n = (let e = k.is in omega arith) in subst (λ (i : ℕ). IsSomeAnd (slice_get ps i) WasReady) same k.found_ready,
    λ h. let r = to_place 0 n ps h in let same : 0 + n ≡ n = omega arith in subst (Has (ready_places found 0 ps)) same r,
  )

  below : (k l : ℕ) (ns : List ℕ) → k ≤ l → RisesFrom l ns → RisesFrom k ns
  below k l [] h rises = tt
  below k l (n ∷ ns) h rises = (let e = rises.0 in omega arith, rises.1)

  rises_on : (k : ℕ) (ps : List ℕ) → RisesFrom k (ready_places found k ps)
  rises_on k [] = tt
  rises_on k (p ∷ ps) = by (is_ready (found_of found p)) (rises_on (suc k) ps)
    where
      by : (b : Bool) → RisesFrom (suc k) (ready_places found (suc k) ps) → RisesFrom k (if b then k ∷ ready_places found (suc k) ps else ready_places found (suc k) ps)
      by true rises = (omega arith, rises)
      by false rises = below k (suc k) (ready_places found (suc k) ps) (omega arith) rises

  pub places_rise : (ps : List ℕ) → RisesFrom 0 (ready_places found 0 ps)
  places_rise ps = rises_on 0 ps
