use Rattle.wasi_tcp.proofs.TakenBytes.{taken_front_of, taken_whole, look_takes_nothing, check_takes_nothing, read_takes_nothing}
use Rattle.wasi_tcp.proofs.laws.writes_are_taken_in_order.Goals as goal

pub returns : goal.returns
returns c = record { front = taken_front_of; whole = taken_whole; look = look_takes_nothing; check_write = check_takes_nothing; read = read_takes_nothing }
