-- Calls that are given up: what becomes of the records, and of the network sockets that they hold.
use Rattle.std.specs.Prelude.{IfOk, OnErr}
use Rattle.std.specs.declared.alloc.AllocError.{AllocError}
use Rattle.std.proofs.Common.{◌≡◌, ℕ, Some, Result, Ok, Err, sym, ap}
use Rattle.wasi_world.specs.Asks.{Give, bind, AsksFor}
use Rattle.wasi_world.specs.Seen.{Seen}
use Rattle.wasi_world.proofs.Walks.{asks_end, asks_exit}
use Rattle.tcp_records.specs.declared.tcp_listening.Listening.TheVariants.{Not}
use Rattle.tcp_records.specs.declared.socket.TcpRecord.{TcpRecord}
use Rattle.host_tcp.specs.TcpCancels.{listen_gone, listen_kept}
use Rattle.tcp_records.specs.Listening.{give_up_asks, side_in, unclosed, with_listening}
use Rattle.tcp_records.specs.Sides.{Balances}
use Rattle.record_common.specs.Sides.{no_socket}
use Rattle.host_store.specs.Store.{Records, with_socket}
use Rattle.tcp_records.proofs.Releases.{given_up_closes, unclosed_holds}

-- == a listen
pub listen_cancelled : (store : Records) (place : ℕ) (r now : TcpRecord) {s t : Seen} (result : Result (Unit {0}) AllocError) → AsksFor (give_up_asks r.listening) s t (λ done. done) result → IfOk result (λ done. now ≡ with_listening r Not)
    → AsksFor (bind (give_up_asks r.listening) (λ done. Give (listen_gone store place r))) s t (λ done. with_socket store place now) result
listen_cancelled store place r now (Ok done) h e = asks_end _ h.ok (ap (λ (n : TcpRecord). Give (with_socket store place n)) (sym e))
listen_cancelled store place r now (Err d) h e = asks_exit (λ d. Unit {0}) _ tt h.err

pub listen_balances : (r now : TcpRecord) {s t : Seen} (result : Result (Unit {0}) AllocError) → AsksFor (give_up_asks r.listening) s t (λ done. done) result → IfOk result (λ done. now ≡ with_listening r Not)
    → OnErr result (now ≡ with_listening r (unclosed (side_in r.listening))) → OnErr result (t ≡ s) → Balances s t no_socket r now
listen_balances r now (Ok done) h e f u = rw e (given_up_closes r h.ok)
listen_balances r now {s} (Err d) h e f u = rw (f, u) (unclosed_holds r s)

-- for lack of memory the record keeps what isn't closed
pub listen_stays : (store : Records) (place : ℕ) (r now : TcpRecord) (result : Result (Unit {0}) AllocError) → OnErr result (now ≡ with_listening r (unclosed (side_in r.listening)))
    → OnErr result (with_socket store place now ≡ listen_kept store place (Some r))
listen_stays store place r now (Ok done) h = tt
listen_stays store place r now (Err d) h = ap (with_socket store place) h
