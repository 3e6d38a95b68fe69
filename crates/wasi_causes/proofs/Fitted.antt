-- Of the machines that runs lead to: each live handle has its record, each record fits, and so does each datagram of 0.3 in progress.
use Rattle.std.specs.Prelude.{◌≡◌, ◌==◌, ℕ, Bool, true, false, List, [], ◌∷◌, Option, Some, None, IsSomeAnd}
use Rattle.std.proofs.Common.{◌∙◌}
use Rattle.wasi_causes.proofs.Words.{sym, Allows, Entry, Give, Left, Machine, Reply, Step, WasiSocketsCtx, ap, eqb-true, first_state, gives_more, inl, inr, machine_asks, refl, run}
use Rattle.socket_common.specs.Rounds.{some_left}
use Rattle.wasi_world.specs.Operation.{Item, Operation}
use Rattle.wasi_udp.specs.Receive as receive
use Rattle.wasi_udp.specs.Send as send
use Rattle.udp_records.specs.declared.udp.OpenUdp.{OpenUdp}
use Rattle.udp_records.specs.declared.udp.UdpRecord.{UdpRecord}
use Rattle.wasi_records.specs.Records.{open_at, udp2_at}
use Rattle.udp_records.specs.Udp.{open_of}
use Rattle.record_common.specs.Names.{own_of}
use Rattle.host_store.specs.Beside.{beside_as, beside_in, beside_of}
use Rattle.host_udp.specs.SocketDatagrams.{is_datagram, is_datagram_in}
use Rattle.host_store.specs.declared.beside.BesideCall.{BesideCall}
use Rattle.host_store.specs.declared.beside.BesideCall.TheVariants.{Connect, Receive, Resolve, Send}
use Rattle.wasi_walks.specs.Missing.{BesideNothing, IsOfNoSocket}
use Rattle.host_store.specs.declared.beside.Beside.{Beside}
use Rattle.wasi_walks.specs.Licence.{Has}
use Rattle.wasi_walks.proofs.claims.Law.{begins_fitting, fits_along}
unfoldable use Rattle.wasi_walks.proofs.claims.Law.{fitting}
use Rattle.wasi_walks.proofs.fits.Datagrams.{DatagramOn, Datagrams, FitBeside, first_datagrams}
use Rattle.wasi_walks.proofs.fits.Law.{Fit}
use Rattle.wasi_walks.proofs.fits.Lines.{first_fit, starts_fit}
use Rattle.wasi_walks.proofs.fits.Polls.{Anything}
use Rattle.wasi_walks.proofs.owners.Law.{Owns}
use Rattle.wasi_walks.proofs.walks.Moves.{Own}
use Rattle.wasi_walks.proofs.walks.Runs.{run_ends}
use Rattle.wasi_walks.proofs.walks.States.{Over, Starts}
use Rattle.wasi_walks.proofs.walks.Steps.{machine_walks, may_while}
use Rattle.wasi_causes.proofs.Beside.{find_has}
use Rattle.wasi_causes.proofs.Derived.{OwnedIn, first_in}
use Rattle.wasi_causes.specs.P3Datagrams.{IsLeftToReceive, IsLeftToSend, IsRestOfReceive, IsRestOfSend, OfOpenUdp, ToRefuseReceive, ToRefuseSend, ToCheck, ToCheckBoth, ToCheckSender, ToReceive, ToSend}

abbrev pub Fitted : Machine → Type 0
Fitted m = OwnedIn m × Datagrams (Over m) × Fit (Over m)

pub first_fitted : Fitted first_state
first_fitted = (first_in, first_datagrams, first_fit)

-- a line begins, and is over
pub starts_fitted : (m : Machine) (own : Own) → Fitted m → Owns (Starts m own) × (Datagrams (Starts m own) × Fit (Starts m own))
starts_fitted m own f =
    let d = f.1 in
    ((f.0.0, tt, f.0.1), (record { held = λ place n e. absurd (cc); stands = d.stands; besides = d.besides; apart = d.apart; made = λ place e. absurd e; streams = d.streams }, starts_fit m own f.2))

pub over_fitted : (m : Machine) → Owns (Over m) × (Datagrams (Over m) × Fit (Over m)) → Fitted m
over_fitted m k = ((k.0.0, k.0.2), k.1.0, k.1.1)

pub line_fitted : (contexts : List WasiSocketsCtx) (line : ℕ) (s : Step) (m : Machine) (es : List Entry) → Fitted m → Allows Anything (λ fs done. Fitted done.1) es (machine_asks contexts m line s)
unfolding fitting
line_fitted contexts line s m es f =
    gives_more (λ fs done. Owns (Over done.1) × (Datagrams (Over done.1) × Fit (Over done.1))) (λ fs done. Fitted done.1) (λ fs done k. over_fitted done.1 k) es (machine_asks contexts m line s)
    (fits_along contexts line s (machine_walks line s {law = fitting contexts line s} (begins_fitting contexts line s) m m.store.standing refl) es (starts_fitted m (may_while m s m.store.standing) f))

pub runs_fit : (contexts : List WasiSocketsCtx) (steps : List Step) (es : List Entry) (replies : List Reply) (m : Machine) → Left (run contexts [] first_state 1 steps) es (Give (replies, m)) → Fitted m
runs_fit contexts steps es replies m w = (run_ends contexts Anything (λ line fs now. Fitted now) (line_fitted contexts) first_fitted steps es replies m w).1

-- == the calls that stand beside others
-- the call of this number fits
pub beside_fits : (m : Machine) → Fitted m → (n : ℕ) (b : Beside) → beside_of m.store n ≡ Some b → FitBeside m.store.records b.line b.call × (b.line ≡ n)
beside_fits m f n b e = let k = find_has m.store.beside n b e in (f.1.besides b k.0, k.1)

-- its socket is open
pub datagram_at : (m : Machine) (line place : ℕ) (op : Operation) (on : DatagramOn m.store.records line place op) → open_at m.store.records place ≡ Some on.was
datagram_at m line place op on = ap open_of on.at

-- and something is left of it
left_to_send : (items : List Item) → send.IsLeftOfSend items → some_left items ≡ true → IsLeftToSend items
left_to_send _ (send.Unbound family kept a bytes) e = ToCheckBoth family kept a bytes
left_to_send _ (send.Unchecked kept a bytes) e = ToCheck kept a bytes
left_to_send _ (send.Checked kept a bytes) e = ToSend kept a bytes
left_to_send _ (send.ToRefuse c) e = ToRefuseSend c
left_to_send _ send.Ended e = absurd (cc)

left_to_receive : (items : List Item) → receive.IsLeftOfReceive items → some_left items ≡ true → IsLeftToReceive items
left_to_receive _ (receive.Unreceived only) e = ToReceive only
left_to_receive _ (receive.Received only bytes peer) e = ToCheckSender only bytes peer
left_to_receive _ (receive.ToRefuse c) e = ToRefuseReceive c
left_to_receive _ receive.Ended e = absurd (cc)

-- == so it is in a run
module _ (m : Machine) (f : Fitted m) (n place : ℕ) (op : Operation) where
  of_open : (line : ℕ) → line ≡ n → DatagramOn m.store.records line place op → OfOpenUdp m n place op
  of_open line same on = record { socket = on.was; at = ap open_of on.at; by = on.of_line ∙ ap own_of same; side = on.of_side }

  pub sends_on : beside_of m.store n ≡ Some (beside_as n (Send place op)) → OfOpenUdp m n place op × IsRestOfSend op
  sends_on e =
      let k = beside_fits m f n (beside_as n (Send place op)) e in
      (of_open n refl k.0.0, record { last = k.0.1.last; left = left_to_send op.left k.0.1.left k.0.0.going })

  pub receives_on : beside_of m.store n ≡ Some (beside_as n (Receive place op)) → OfOpenUdp m n place op × IsRestOfReceive op
  receives_on e =
      let k = beside_fits m f n (beside_as n (Receive place op)) e in
      (of_open n refl k.0.0, record { last = k.0.1.last; left = left_to_receive op.left k.0.1.left k.0.0.going })

-- no datagram has lost its socket
pub none_lost : (m : Machine) → Fitted m → (n : ℕ) → BesideNothing m n → is_datagram_in (beside_of m.store n) ≡ false
none_lost m f n gone = by_beside (beside_of m.store n) refl gone.1
  where
    by_call : (b : Beside) (call : BesideCall) → FitBeside m.store.records b.line call → IsOfNoSocket m call → is_datagram call ≡ false
    by_call b (Connect place) fit none = refl
    by_call b (Resolve host) fit none = refl
    by_call b (Send place op) fit none = let there = ap open_of fit.0.at in absurd (cc)
    by_call b (Receive place op) fit none = let there = ap open_of fit.0.at in absurd (cc)

    by_beside : (o : Option Beside) → beside_of m.store n ≡ o → IsSomeAnd o (λ b. IsOfNoSocket m b.call) → is_datagram_in o ≡ false
    by_beside None e none = refl
    by_beside (Some b) e none = by_call b b.call (beside_fits m f n b e).0 none
