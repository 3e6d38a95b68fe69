-- Of which network sockets the handles are that a step gives.
use Rattle.std.proofs.Common.{◌≡◌, ◌∙◌, ℕ, ◌+◌, ◌^◌, ◌<◌, refl, sym, ap, subst, List, [], ◌∷◌, ◌++◌, length, append_assoc, Bool, true, false, if◌then◌else◌, Option, Some, inl, inr, arith}
use Rattle.std.proofs.lemmas.Bool.{ltb-false}
use Rattle.std.specs.Prelude.{nat_lt}
use Rattle.wasi_world.specs.declared.ids.OpId.{OpId}
use Rattle.wasi_world.specs.declared.call.Call.TheVariants.{Made}
use Rattle.wasi_world.specs.declared.call.Entry.{Entry}
use Rattle.wasi_world.specs.declared.call.HandleKind.{HandleKind}
use Rattle.wasi_world.specs.declared.call.HandleKind.TheVariants.{Tcp2, Input, Output}
use Rattle.wasi_world.specs.declared.call.Told.{Told}
use Rattle.wasi_world.specs.declared.call.Told.TheVariants.{Done}
use Rattle.wasi_world.specs.declared.outcome.WasiSocketsCtx.{WasiSocketsCtx}
use Rattle.host_store.specs.declared.machine.Machine.{Machine}
use Rattle.record_common.specs.Names.{own_of}
use Rattle.wasi_steps.specs.declared.guest_call.GuestCall.TheVariants as guest
use Rattle.wasi_steps.specs.declared.guest_call.TcpCall.TheVariants as tcp_call
use Rattle.wasi_steps.specs.declared.reply.Reply.{Reply}
use Rattle.wasi_steps.specs.declared.reply.Reply.TheVariants as replied
use Rattle.wasi_steps.specs.declared.step.Step.{Step}
use Rattle.wasi_steps.specs.declared.step.Step.TheVariants.{Call}
use Rattle.wasi_addr.specs.declared.address.SocketAddressFamily.{SocketAddressFamily}
use Rattle.wasi_walks.proofs.Lists.{cut_of, has_back, has_front}
use Rattle.wasi_walks.proofs.licence.Fresh.{next_is_new}
use Rattle.wasi_walks.proofs.licence.Runs.{last_line, runs_fine}
use Rattle.wasi_walks.specs.Licence.{Has, IsMarkOf, IsMarkedWith, IsSide, MarksNoSocket, entry, step_at}
use Rattle.wasi_causes.specs.Marks.{IsNewHandle}
use Rattle.wasi_walks.proofs.licence.Meanings.{one_mark}
use Rattle.wasi_relay.specs.Replies.{handle_of}
use Rattle.wasi_relay.proofs.Past.{Goes, Past, Replies, push}
use Rattle.wasi_relay.proofs.Grown.{IsTcp, licensed}

-- a handle of 32 bits is what a relay takes from a reply
pub small_handle : (n : ℕ) → n < 2 ^ 32 → handle_of n ≡ n
small_handle n h = by_test (nat_lt n 4294967296) refl
  where
    by_test : (b : Bool) → nat_lt n 4294967296 ≡ b → (if b then n else 0) ≡ n
    by_test true e = refl
    by_test false e = absurd (let k = ltb-false n 4294967296 e in omega (arith, k, h))

module _ (contexts : List WasiSocketsCtx) (past : Past contexts) (g : Goes past.replies) (s : Step) (entries : List Entry) (r : Reply) (m : Machine) (a : Replies contexts past s entries r m) where
  abbrev own : OpId
  own = own_of (1 + length past.steps)

  -- a mark of the step is one that it may make
  marked_so : (front : List Entry) (back : List Entry) (handle : ℕ) (kind : HandleKind) (parent : Option ℕ) (sock : Option OpId) (told : Told) → past.log ++ entries ≡ front ++ entry (own_of (1 + length past.steps)) (Made handle kind parent sock) told ∷ back → IsMarkOf front (own_of (1 + length past.steps)) kind parent sock s
  marked_so front back handle kind parent sock told cut =
      let may = (licensed contexts (push contexts past g s entries r m a)).each front _ back cut in
      let at : step_at (past.steps ++ s ∷ []) (1 + length past.steps) ≡ Some s = last_line past.steps s (1 + length past.steps) (omega arith) in
      let same : may.1.origin ≡ s = (let p = sym may.1.at ∙ at in cc) in
      subst (λ (x : Step). IsMarkOf front (own_of (1 + length past.steps)) kind parent sock x) same may.1.holds

  its_cut : (handle : ℕ) (made : IsNewHandle (own_of (1 + length past.steps)) entries handle) → (front : List Entry) × (back : List Entry) × (past.log ++ entries ≡ front ++ entry (own_of (1 + length past.steps)) (Made handle made.kind made.parent made.sock) made.told ∷ back)
  its_cut handle made = let c = cut_of (past.log ++ entries) _ (has_back past.log entries _ made.marked) in (c.front, c.back, c.is)

  -- == a connect that is finished
  pub connected_side : (ctx socket handle : ℕ) (side : OpId) → s ≡ Call ctx (guest.Tcp (tcp_call.FinishConnect socket)) → IsTcp past.log socket side → IsNewHandle (own_of (1 + length past.steps)) entries handle → IsSide (past.log ++ entries) handle side
  connected_side ctx socket handle side is tcp made =
      let c = its_cut handle made in
      let so : IsMarkOf c.0 (own_of (1 + length past.steps)) made.kind made.parent made.sock (Call ctx (guest.Tcp (tcp_call.FinishConnect socket))) = subst (IsMarkOf c.0 (own_of (1 + length past.steps)) made.kind made.parent made.sock) is (marked_so c.0 c.1 handle made.kind made.parent made.sock made.told c.2) in
      let with_it : IsMarkedWith c.0 socket made.sock = so.1.1 in
      let there : IsMarkedWith (past.log ++ entries) socket made.sock = record { op = with_it.op; kind = with_it.kind; parent = with_it.parent; told = with_it.told; mark = subst (λ (es : List Entry). Has es (entry with_it.op (Made socket with_it.kind with_it.parent made.sock) with_it.told)) (sym c.2) (has_front c.0 _ _ with_it.mark) } in
      let its : IsMarkedWith (past.log ++ entries) socket (Some side) = record { op = tcp.op; kind = Tcp2; parent = tcp.parent; told = tcp.told; mark = has_front past.log entries _ tcp.mark } in
      let same : made.sock ≡ Some side = one_mark contexts (past.steps ++ s ∷ []) (past.log ++ entries) [] (licensed contexts (push contexts past g s entries r m a)) socket made.sock (Some side) there its in
      record { op = own_of (1 + length past.steps); kind = made.kind; parent = made.parent; told = made.told; mark = subst (λ (o : Option OpId). Has (past.log ++ entries) (entry (own_of (1 + length past.steps)) (Made handle made.kind made.parent o) made.told)) same (has_back past.log entries _ made.marked) }

  -- == a create
  pub created_side : (ctx handle : ℕ) (family : SocketAddressFamily) → s ≡ Call ctx (guest.Tcp (tcp_call.Create family)) → IsNewHandle (own_of (1 + length past.steps)) entries handle → IsTcp (past.log ++ entries) handle (own_of (1 + length past.steps))
  created_side ctx handle family is made =
      let c = its_cut handle made in
      let so : IsMarkOf c.0 (own_of (1 + length past.steps)) made.kind made.parent made.sock (Call ctx (guest.Tcp (tcp_call.Create family))) = subst (IsMarkOf c.0 (own_of (1 + length past.steps)) made.kind made.parent made.sock) is (marked_so c.0 c.1 handle made.kind made.parent made.sock made.told c.2) in
      let P : HandleKind → Option OpId → Type 0 = λ k o. Has (past.log ++ entries) (entry (own_of (1 + length past.steps)) (Made handle k made.parent o) made.told) in
      record { op = own_of (1 + length past.steps); parent = made.parent; told = made.told; mark = subst (λ (k : HandleKind). P k (Some (own_of (1 + length past.steps)))) so.0 (subst (λ (o : Option OpId). P made.kind o) so.2 (has_back past.log entries _ made.marked)) }

  -- == an accept
  pub accepted_fresh : (ctx listener handle next : ℕ) (front back : List Entry) (side : OpId) → s ≡ Call ctx (guest.Tcp (tcp_call.Accept listener)) → entries ≡ front ++ entry (own_of (1 + length past.steps)) (Made next Tcp2 (Some handle) (Some side)) Done ∷ back → MarksNoSocket past.log side
  accepted_fresh ctx listener handle next front back side is cut =
      let whole : past.log ++ entries ≡ (past.log ++ front) ++ entry (own_of (1 + length past.steps)) (Made next Tcp2 (Some handle) (Some side)) Done ∷ back = ap (λ (es : List Entry). past.log ++ es) cut ∙ sym (append_assoc past.log front _) in
      let so : IsMarkOf (past.log ++ front) (own_of (1 + length past.steps)) Tcp2 (Some handle) (Some side) (Call ctx (guest.Tcp (tcp_call.Accept listener))) = subst (IsMarkOf (past.log ++ front) (own_of (1 + length past.steps)) Tcp2 (Some handle) (Some side)) is (marked_so (past.log ++ front) back next Tcp2 (Some handle) (Some side) Done whole) in
      elim so [
        | inl x ↦ (let e : x.accept ≡ side = (let q = x.side in cc) in λ o h name parent told n i. x.fresh o h name parent told n (has_front past.log front _ (subst (λ (y : OpId). Has past.log (entry o (Made h name parent (Some y)) told)) (sym e) i)))
        | inr x ↦ absurd (elim x.stream [ inl e ↦ (let q : Tcp2 ≡ Input = e in cc) | inr e ↦ (let q : Tcp2 ≡ Output = e in cc) ])
      ]

-- the line that comes next marked no socket with its own network socket
pub next_fresh : (contexts : List WasiSocketsCtx) (past : Past contexts) → MarksNoSocket past.log (own_of (1 + length past.steps))
next_fresh contexts past =
    let fine = (runs_fine contexts past.steps past.log past.replies past.state past.ran).1.fine in
    (next_is_new contexts past.steps past.log (licensed contexts past) past.state fine).marked (own_of (1 + length past.steps)) (omega arith)
