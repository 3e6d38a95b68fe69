-- Polls of connects of 0.3 UDP sockets that are pending.
use Rattle.wasi_causes.proofs.Words.{◌≡◌, ◌∙◌, ℕ, Bool, if◌then◌else◌, List, [], Option, Some, None, Result}
use Rattle.wasi_causes.proofs.Words.{Ok, Err, refl, ap, subst, sym, Answer, Done, End, Entry, ErrorCode, Item, Machine, Operation, Refused, Reply, Waits}
use Rattle.wasi_causes.proofs.Words.{Records, Standing, StandingCall, Stop, WasiSocketsCtx, call_of, eq-eqb, nothing_stands, resume_asks, resume_call, resumed, resumed_reply, standing_as, unstood, with_store}
use Rattle.wasi_world.specs.declared.ids.Ids.{Ids}
use Rattle.wasi_causes.proofs.Beside.{polls_itself}
use Rattle.wasi_causes.proofs.operations.UdpConnectEnds.{udp_connect_ends}
use Rattle.wasi_causes.proofs.tables.Meets.{Meets, Rows, branch, ends, met, onto, widen}
use Rattle.wasi_causes.proofs.tables.Routes.{calls}
use Rattle.wasi_causes.specs.P3UdpConnects.{ConnectPolled, ConnectPolls, IsConnected, IsRefused, WaitsStill}
use Rattle.wasi_host.specs.declared.pending.Outcome.{Outcome}
use Rattle.host_store.specs.declared.kind.Interface.TheVariants.{P3}
use Rattle.host_store.specs.declared.store.StandingCall.TheVariants.{UdpConnect3}
use Rattle.host_store.specs.BaseStops.{BaseStop}
use Rattle.host_store.specs.Lines.{Answered, keeps}
use Rattle.host_store.specs.Block.{Call, Does, goes_on, or_trap}
use Rattle.wasi_host.specs.Pending.{answered_on, outcome_of}
use Rattle.host_store.specs.Store.{with_open_udp}
use Rattle.host_udp.specs.UdpConnects.{udp_reconnect_of}
use Rattle.wasi_machine.specs.Machine.{asks_while, is_held_up}
use Rattle.udp_records.specs.Datagrams.{udp_reconnect_asks, udp_reconnect_ended, udp_reconnecting}
use Rattle.udp_records.specs.declared.udp.OpenUdp.{OpenUdp}
use Rattle.wasi_records.specs.Records.{open_at}
use Rattle.record_common.specs.Stops.{Code}
use Rattle.wasi_steps.specs.declared.reply.Reply.TheVariants as reply
use Rattle.wasi_steps.specs.declared.step.Step.TheVariants as step
use Rattle.wasi_walks.specs.Answered.{Answered as AnsweredBy}
use Rattle.wasi_walks.specs.Waiting.{IsRestOfUdpConnect}

module _ (contexts : List WasiSocketsCtx) (m : Machine) (line : ℕ) (ids : Ids) (place : ℕ) (stands : m.store.standing ≡ Some (standing_as ids (UdpConnect3 place))) (o : OpenUdp) (at : open_at m.store.records place ≡ Some o) (op : Operation) (is : o.connecting ≡ Some op) (its : IsRestOfUdpConnect op) where
  abbrev n : ℕ
  n = ids.line

  abbrev its_call : StandingCall
  its_call = UdpConnect3 place

  abbrev free : Records
  free = unstood m.store

  abbrev Row : Rows (Reply × Machine)
  Row es done = ConnectPolled m n place o op es done.0 done.1

  abbrev ResumedRow : Rows (Result (Option (Answer Outcome)) Stop × Machine)
  ResumedRow es done = Row es (resumed_reply n done.0, done.1)

  abbrev GoneRow : Rows (Result (Answer (Unit {0})) BaseStop × Records)
  GoneRow es done = ResumedRow es (resumed (answered_on outcome_of P3 (with_store (nothing_stands m) done)))

  -- what the socket answers, and the call with it
  abbrev ToldRow : Rows (Answered × OpenUdp)
  ToldRow es (Ok answer, now) = Meets GoneRow es (keeps ids its_call answer (with_open_udp free place now))
  ToldRow es (Err code, now) = GoneRow es (Err (Code code), with_open_udp free place now)

  ended : (es : List Entry) (end : End × List Item) → ConnectPolls op.who op.left es end → ToldRow es (udp_reconnect_ended op o end)
  ended es (Waits, items) k =
      let now : OpenUdp = (udp_reconnect_ended op o (Waits, items)).1 in
      ends (subst (λ (s : Option Standing). Row es (reply.Pending n, record m { store = record (with_open_udp m.store place now) { standing = s } })) stands (WaitsStill es items k))
  ended es (Done given, items) k = ends (IsConnected es given items k)
  ended es (Refused code given, items) k = IsRefused es code given items k

  reconnects : Meets ToldRow [] (udp_reconnect_asks o)
  reconnects = subst (λ (x : Option Operation). Meets ToldRow [] (udp_reconnecting o x)) (sym is) (onto _ (widen ended (udp_connect_ends op its)))

  abbrev next : OpenUdp → Does ErrorCode Records (Answer (Unit {0}))
  next o = goes_on (Call Code (λ store. o) (λ store now. with_open_udp store place now) udp_reconnect_asks) (keeps ids its_call)

  goes : Meets GoneRow [] (udp_reconnect_of ids place free)
  goes = subst (λ (x : Option OpenUdp). Meets GoneRow [] (or_trap next free x)) (sym at) (calls {Mid = ToldRow} _ reconnects (λ es code now h. ends h) (λ es answer now h. h))

  found : call_of m.store.standing n ≡ Some (standing_as ids its_call)
  found = ap (λ (x : Option Standing). call_of x n) stands ∙ ap (λ (b : Bool). let its : Option Standing = if b then Some (standing_as ids its_call) else None in its) (eq-eqb n n refl)

  resumes : Meets ResumedRow [] (resume_asks m n)
  resumes = subst (λ (x : Option Standing). Meets ResumedRow [] (resume_call m n x)) (sym found) (onto _ (onto _ goes))

  by_standing : (x : Option Standing) → m.store.standing ≡ x → Meets Row [] (asks_while contexts m line (step.Poll n) x)
  by_standing None e = let none : None ≡ Some (standing_as ids its_call) = sym e ∙ stands in absurd (cc)
  by_standing (Some s) e = branch (is_held_up m.store (step.Poll n)) (λ held. let free = polls_itself m ids its_call stands in absurd (cc)) (λ other. onto _ resumes)

  pub polled_so : (es : List Entry) (r : Reply) (after : Machine) → AnsweredBy contexts m line (step.Poll n) es r after → ConnectPolled m n place o op es r after
  polled_so es r after w = met {a = (r, after)} (by_standing m.store.standing refl) w
