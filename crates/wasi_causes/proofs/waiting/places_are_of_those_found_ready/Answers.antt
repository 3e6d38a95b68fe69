use Rattle.wasi_causes.proofs.pollables.Places.{exact_places, found_each, none_twice, places_rise, same_ones}
use Rattle.wasi_causes.proofs.waiting.places_are_of_those_found_ready.Goals as goal

pub returns : goal.returns
returns c = record {
  same = λ pollables p. same_ones pollables p;
  once = λ pollables. none_twice pollables;
  each = λ look m ids pollables entries found after looks. found_each m ids pollables entries found after looks;
  exactly = λ found pollables place. exact_places found pollables place;
  rising = λ found pollables. places_rise found pollables;
}
