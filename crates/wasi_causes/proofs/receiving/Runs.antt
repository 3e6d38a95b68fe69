-- Along a run the replies hand out, on the handle of each incoming stream, what that received: all of it but what waits.
use Rattle.std.specs.Prelude.{flat_map}
use Rattle.wasi_causes.proofs.Words.{Allows, Entry, Give, Left, List, Machine, None, Option, Reply, Some, Step, WasiSocketsCtx, [], allows_if, allows_then, ap, append-nil, append_assoc, arith, first_state, inl, inr, is_trap, kind_at, length, machine_asks, refl, run, subst, sym, ℕ, ◌+◌, ◌++◌, ◌∙◌, ◌∷◌, ◌≡◌, ◌⊎◌}
use Rattle.std.proofs.lemmas.Grind.{flat_map-append}
use Rattle.wasi_addr.specs.declared.address.IpSocketAddress.{IpSocketAddress}
use Rattle.wasi_world.specs.declared.datagram.IncomingDatagram.{IncomingDatagram}
use Rattle.wasi_world.specs.declared.ids.OpId.{OpId}
use Rattle.wasi_world.proofs.Allowed.{reached}
use Rattle.udp_records.specs.Udp.{open_of}
use Rattle.host_store.specs.declared.kind.Kind.TheVariants.{Incoming}
use Rattle.wasi_steps.specs.Reply.{received_values}
use Rattle.wasi_steps.specs.declared.reply.Field.{Field}
use Rattle.wasi_walks.proofs.Words.{length-append}
use Rattle.wasi_walks.proofs.fits.Polls.{Anything}
use Rattle.wasi_walks.proofs.licence.State.{RemoteIs}
use Rattle.wasi_causes.specs.Datagrams.{OfIncoming}
use Rattle.wasi_causes.specs.ReceivedList.{KeepsLastRemote, HandedOut, HandsOutFront, HasAllReceived, KeptThere, handed_by, handed_out}
use Rattle.wasi_causes.proofs.receiving.Along.{IsOfOne, are_apart}
use Rattle.wasi_causes.proofs.receiving.Lines.{first_rest}
use Rattle.wasi_causes.proofs.receiving.Polled.{Exact, none_over}
use Rattle.wasi_causes.proofs.receiving.Replies.{Fronts, StreamBetween, Takes, line_takes, waiting_is}
use Rattle.wasi_causes.proofs.receiving.Streams.{StreamAt}

module _ (handle : ℕ) where
  -- == what replies hand out, with more steps, and with one reply more
  longer : (steps more : List Step) (replies : List Reply) → length replies ≡ length steps → handed_out handle (steps ++ more) replies ≡ handed_out handle steps replies
  longer [] [] [] e = refl
  longer [] (s ∷ more) [] e = refl
  longer [] more (r ∷ replies) e = absurd (omega (arith, e))
  longer (s ∷ steps) more [] e = absurd (omega (arith, e))
  longer (s ∷ steps) more (r ∷ replies) e = ap (λ (fields : List Field). handed_by handle s r ++ fields) (longer steps more replies (omega (arith, e)))

  pushed : (steps : List Step) (replies : List Reply) (s : Step) (r : Reply) → length replies ≡ length steps → handed_out handle (steps ++ s ∷ []) (replies ++ r ∷ []) ≡ handed_out handle steps replies ++ handed_by handle s r
  pushed [] [] s r e = append-nil (handed_by handle s r)
  pushed [] (x ∷ replies) s r e = absurd (omega (arith, e))
  pushed (y ∷ steps) [] s r e = absurd (omega (arith, e))
  pushed (y ∷ steps) (x ∷ replies) s r e = ap (λ (fields : List Field). handed_by handle y x ++ fields) (pushed steps replies s r (omega (arith, e))) ∙ sym (append_assoc (handed_by handle y x) (handed_out handle steps replies) (handed_by handle s r))

  -- and so the datagrams
  handed_longer : (steps more : List Step) (replies : List Reply) (list : List IncomingDatagram) → length replies ≡ length steps → HandedOut handle steps replies list → HandedOut handle (steps ++ more) replies list
  handed_longer steps more replies list e k = longer steps more replies e ∙ k

  handed_pushed : (steps : List Step) (replies : List Reply) (s : Step) (r : Reply) (list new : List IncomingDatagram) → length replies ≡ length steps → HandedOut handle steps replies list → handed_by handle s r ≡ flat_map received_values new → HandedOut handle (steps ++ s ∷ []) (replies ++ r ∷ []) (list ++ new)
  handed_pushed steps replies s r list new e k l =
      pushed steps replies s r e ∙ (ap (λ (fields : List Field). fields ++ handed_by handle s r) k ∙ (ap (λ (fields : List Field). flat_map received_values list ++ fields) l ∙ sym (flat_map-append received_values list new)))

  -- == along a run
  -- They are a front of what the stream received, and that is of its stream alone.
  pub record OfOne (log : List Entry) (steps : List Step) (replies : List Reply) : Type 0 where
    pub front : HandsOutFront log steps replies handle
    pub mine : IsOfOne front.side front.marked.front front.while_live.during

  -- What it comes to.
  record Ends (steps : List Step) (es : List Entry) (done : List Reply × Machine) : Type 0 where
    pub list : List IncomingDatagram
    pub line : ℕ
    pub gives : HandedOut handle steps done.0 list
    pub between : StreamBetween handle list line es done.1

  module _ (contexts : List WasiSocketsCtx) where
    same_length : (replies : List Reply) (before : List Step) (r : Reply) (s : Step) → length replies ≡ length before → length (replies ++ r ∷ []) ≡ length (before ++ s ∷ [])
    same_length replies before r s n = let p = length-append replies (r ∷ []) in let q = length-append before (s ∷ []) in omega (arith, n, p, q)

    lines : (all before rest : List Step) (replies : List Reply) (m : Machine) (line : ℕ) (list : List IncomingDatagram) (es : List Entry) → all ≡ before ++ rest → length replies ≡ length before → HandedOut handle before replies list → StreamBetween handle list line es m
        → Allows Anything (λ fs done. Ends all fs done) es (run contexts replies m line rest)
    lines all before [] replies m line list es a n k b = record { list = list; line = line; gives = subst (λ (steps : List Step). HandedOut handle steps replies list) (sym a) (handed_longer before [] replies list n k); between = b }
    lines all before (s ∷ rest) replies m line list es a n k b =
        let now : List Step = before ++ s ∷ [] in
        let next : all ≡ now ++ rest = a ∙ sym (append_assoc before (s ∷ []) rest) in
        allows_then Anything (λ fs done. Takes handle list line s fs done) (λ fs done. Ends all fs done) es (machine_asks contexts m line s) _ (line_takes handle contexts list line s m es b)
        (λ fs done t.
        let said : HandedOut handle now (replies ++ done.0 ∷ []) (list ++ t.new) = handed_pushed before replies s done.0 list t.new n k t.gives in
        allows_if Anything (λ fs done. Ends all fs done) fs (is_trap done.0) _ _
        (λ trap. record { list = list ++ t.new; line = line + 1; gives = subst (λ (steps : List Step). HandedOut handle steps (replies ++ done.0 ∷ []) (list ++ t.new)) (sym next) (handed_longer now rest (replies ++ done.0 ∷ []) (list ++ t.new) (same_length replies before done.0 s n) said); between = t.between })
        (λ on. lines all now rest (replies ++ done.0 ∷ []) done.1 (line + 1) (list ++ t.new) fs next (same_length replies before done.0 s n) said t.between))

    -- at first there is no handle
    first : StreamBetween handle [] 1 [] first_state
    first = record { rest = first_rest; stream = λ place e. absurd (cc); fresh = λ l. refl; fronts = inl refl }

    module _ (steps : List Step) (log : List Entry) (replies : List Reply) (m : Machine) (ran : Left (run contexts [] first_state 1 steps) log (Give (replies, m))) where
      ended : Ends steps log (replies, m)
      ended = reached Anything (λ fs done. Ends steps fs done) [] (run contexts [] first_state 1 steps) log (Give (replies, m)) (lines steps [] steps [] first_state 1 [] [] refl refl refl first) ran

      kept_there : (es : List Entry) (side : OpId) (kept : Option IpSocketAddress) → RemoteIs es side kept → KeptThere es side kept
      kept_there es side None k = tt
      kept_there es side (Some a) k = k a refl

      -- a live stream
      pub runs_receive_all : (place : ℕ) → kind_at m.table handle ≡ Some (Incoming place) → OfIncoming m (Some place) (λ place o stream. HasAllReceived log steps replies handle o.inner.side stream)
      runs_receive_all place live =
          let k = ended in
          let s : StreamAt handle k.list log m.store.records place = k.between.stream place live in
          let knows : Exact handle s.socket.inner.side s.stream.remote log k.list s.stream.receiving = s.knows in
          record {
            place = place;
            found = s.socket;
            stream = s.stream;
            names = refl;
            at = ap (λ u. open_of u) s.at;
            has = s.has;
            holds = record {
              later = knows.later;
              marked = knows.marked;
              kept = kept_there knows.marked.front s.socket.inner.side s.stream.remote knows.reported;
              handed = k.list;
              gives = k.gives;
              all = knows.all ∙ waiting_is k.list s.stream.receiving;
              one = knows.one;
              each = knows.each;
              apart = are_apart s.socket.inner.side s.stream.remote None knows.later knows.each;
              over = λ e. knows.left ∙ none_over s.stream.receiving e;
            };
          }

      -- and the address that it keeps
      pub runs_keep_remotes : (place : ℕ) → kind_at m.table handle ≡ Some (Incoming place) → OfIncoming m (Some place)
          (λ place o stream. KeepsLastRemote log handle o.inner.side stream.remote)
      runs_keep_remotes place live =
          let s : StreamAt handle ended.list log m.store.records place = ended.between.stream place live in
          let knows : Exact handle s.socket.inner.side s.stream.remote log ended.list s.stream.receiving = s.knows in
          record {
            place = place;
            found = s.socket;
            stream = s.stream;
            names = refl;
            at = ap (λ u. open_of u) s.at;
            has = s.has;
            holds = record { later = knows.later; marked = knows.marked; last = knows.exactly };
          }

      -- any stream
      pub runs_hand_out_of_one : (handed_out handle steps replies ≡ []) ⊎ OfOne log steps replies
      runs_hand_out_of_one = by_front ended.between.fronts
        where
          by_front : Fronts handle ended.list log → (handed_out handle steps replies ≡ []) ⊎ OfOne log steps replies
          by_front (inl none) = inl (ended.gives ∙ ap (λ (ds : List IncomingDatagram). flat_map received_values ds) none)
          by_front (inr f) = inr (record { front = record { side = f.side; remote = f.kept; later = f.later; marked = f.marked; kept = kept_there f.marked.front f.side f.kept f.reported; handed = ended.list; gives = ended.gives; more = f.more; front_of = f.all; while_live = f.while_live }; mine = f.mine })

      pub runs_hand_out_fronts : (handed_out handle steps replies ≡ []) ⊎ HandsOutFront log steps replies handle
      runs_hand_out_fronts = elim runs_hand_out_of_one [ inl none ↦ inl none | inr k ↦ inr k.front ]
