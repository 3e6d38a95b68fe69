use Rattle.world_text.proofs.Exactly.{number_exactly}
use Rattle.world_text.proofs.ReadBack.{family_exactly, ip_exactly, address_exactly, code_exactly, bytes_exactly, word_exactly}
use Rattle.world_text.proofs.fields.fields_are_read_exactly.Goals as goal

pub returns : goal.returns
returns c = record {
  numbers = number_exactly;
  families = family_exactly;
  ips = ip_exactly;
  addresses = address_exactly;
  code_words = code_exactly;
  bytes = bytes_exactly;
  words = word_exactly;
}
