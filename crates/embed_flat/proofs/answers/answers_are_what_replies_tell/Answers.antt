use Rattle.std.proofs.Common.{refl}
use Rattle.embed_flat.proofs.Replies.{address_told, found_told, one_told, places_told, truth_told, truth_returned, family_told}
use Rattle.embed_flat.proofs.answers.answers_are_what_replies_tell.Goals as goal

pub returns : goal.returns
returns c = record {
  address = address_told;
  found = found_told;
  none_came = λ place. refl;
  one_came = one_told;
  bytes = λ bs place. refl;
  places = places_told;
  truth = truth_told;
  byte = λ n place. refl;
  word = λ n place. refl;
  wide = λ n place. refl;
  stream_wide = λ n place. refl;
  two = λ a b place. refl;
  three = λ a b c place. refl;
  truth_returned = truth_returned;
  number_returned = λ n. refl;
  family = family_told;
}
