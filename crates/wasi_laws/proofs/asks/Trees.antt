-- The trees that each law walks, by their single asks: a handle that is made, a writer's turn, and a listening that is
-- released.
use Rattle.wasi_world.specs.declared.call.Call.TheVariants as call
use Rattle.wasi_tcp.specs.declared.listener.Accepting.TheVariants as accepting
use Rattle.wasi_tcp.specs.declared.writer.WriteState.TheVariants as writing
use Rattle.wasi_laws.proofs.Words.{◌≡◌, ℕ, List, [], ◌∷◌, ◌++◌, Option, Some, None, refl, IpSocketAddress, OpId, Call, Told, Entry, bind, End, Waits, Operation, Who, poll_asks, Allows, allows_then, allows_if, is_full, Accepting, TcpState, WriteState, in_hand, refuse_in, Job, job_after, job_in, job_asks, is_over, Listener, give_up_in, turn_asks, Kind, Listening, Not, Begins, Accepts, Unclosed, HandleTable, name_of, make_asks, give_up_asks, entry}
use Rattle.wasi_laws.proofs.shapes.Shape.{ListenerShape}

-- a write that a writer continues with, and the writer that has such a job
pub data GoesOn : WriteState → Job → (Job → WriteState) → Type 0 where
  InWriting : (job : Job) → job.end ≡ Waits → GoesOn (writing.Writing job) job (λ j. writing.Writing j)
  InClosing : (job : Job) → job.end ≡ Waits → GoesOn (writing.Closing job) job (λ j. writing.Closing j)

-- what is asked where a listening is released
pub data Undoes (l : Listening) : OpId → Call → Type 0 where
  ClosesBegun : (op : Operation) → l ≡ Begins op → Undoes l op.who.id (call.Close op.who.side)
  RefusesArrival : (k : Listener) (op : Operation) (peer : IpSocketAddress) → l ≡ Accepts k → k.accept ≡ accepting.Asking op → Undoes l op.who.id (call.Refuse op.who.side peer)
  ClosesArrived : (k : Listener) (new : OpId) (peer : IpSocketAddress) → l ≡ Accepts k → k.accept ≡ accepting.Arrived new peer → Undoes l new (call.Close new)

module _ (P : List Entry → OpId → Call → Type 0) where
  -- one call, after which this holds
  abbrev pub Then : (List Entry → Type 0) → List Entry → OpId → Call → Type 0
  Then Q es op c = P es op c × ((told : Told) → Q (es ++ entry op c told ∷ []))

  pub makes_by : (Q : List Entry → Type 0) (es : List Entry) (t : HandleTable) (op : OpId) (kind : Kind) (parent : Option ℕ) (sock : Option OpId) → Q es → Then Q es op (call.Made t.next (name_of kind) parent sock) → Allows P (λ fs made. Q fs) es (make_asks t op kind parent sock)
  unfolding bind
  makes_by Q es t op kind parent sock q k = allows_if P (λ fs made. Q fs) es (is_full t) _ _ (λ full. q) (λ room. (k.0, λ told fits. k.1 told))

  module _ (Q : List Entry → WriteState → Type 0) (es : List Entry) where
    job_by : (job : Job) (put : Job → WriteState) (e : End) → job.end ≡ e → Q es (put job) → (job.end ≡ Waits → Allows P (λ fs ended. Q fs (put (job_after job.write.who ended))) es (poll_asks job.write)) → Allows P (λ fs j. Q fs (put j)) es (job_in job e)
    job_by job put Waits e q f = allows_then P (λ fs ended. Q fs (put (job_after job.write.who ended))) (λ fs j. Q fs (put j)) es (poll_asks job.write) _ (f e) (λ fs ended k. k)
    job_by job put _ e q f = q

    pub turns_by : (w : WriteState) → Q es w → ((job : Job) (put : Job → WriteState) → GoesOn w job put → Allows P (λ fs ended. Q fs (put (job_after job.write.who ended))) es (poll_asks job.write)) → Allows P (λ fs done. Q fs done.1) es (turn_asks w)
    turns_by (writing.Writing job) q f = allows_then P (λ fs j. Q fs (writing.Writing j)) (λ fs done. Q fs done.1) es (job_asks job) _ (job_by job (λ j. writing.Writing j) job.end refl q (λ e. f job _ (InWriting job e))) (λ fs j k. k)
    turns_by (writing.Closing job) q f = allows_then P (λ fs j. Q fs (writing.Closing j)) (λ fs done. Q fs done.1) es (job_asks job) _ (job_by job (λ j. writing.Closing j) job.end refl q (λ e. f job _ (InClosing job e))) (λ fs j k. k)
    turns_by _ q f = q

  module _ (Q : List Entry → Type 0) (es : List Entry) (q : Q es) where
    refuses_by : (who : Who) (o : Option IpSocketAddress) → ((peer : IpSocketAddress) → Then Q es who.id (call.Refuse who.side peer)) → Allows P (λ fs done. Q fs) es (refuse_in who o)
    refuses_by who (Some peer) f = let k = f peer in (k.0, λ told fits. k.1 told)
    refuses_by who None f = q

    accept_by : (l : Listening) (k : Listener) (a : Accepting) → l ≡ Accepts k → k.accept ≡ a → ((op : OpId) (c : Call) → Undoes l op c → Then Q es op c) → Allows P (λ fs done. Q fs) es (give_up_in a)
    accept_by l k accepting.Idle e p f = q
    accept_by l k (accepting.Asking op) e p f = refuses_by op.who (in_hand op.left) (λ peer. f _ _ (RefusesArrival k op peer e p))
    accept_by l k (accepting.Arrived new peer) e p f = let x = f _ _ (ClosesArrived k new peer e p) in (x.0, λ told fits. x.1 told)
    accept_by l k (accepting.Failed c) e p f = q

    pub gives_up_by : (t : TcpState) (l : Listening) → ListenerShape t l → ((op : OpId) (c : Call) → Undoes l op c → Then Q es op c) → Allows P (λ fs done. Q fs) es (give_up_asks l)
    unfolding bind
    gives_up_by t Not s f = q
    gives_up_by t (Begins op) s f = let x = f _ _ (ClosesBegun op refl) in allows_if P (λ fs done. Q fs) es (is_over op) _ _ (λ over. q) (λ more. (x.0, λ told fits. x.1 told))
    gives_up_by t (Accepts k) s f = accept_by (Accepts k) k k.accept refl refl f
    gives_up_by t (Unclosed x) s f = absurd s
