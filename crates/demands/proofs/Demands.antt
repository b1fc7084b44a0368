-- THE THREE DEMANDS, of the calls that a host makes: the statements of specs/Demands.antt, proved.
use Rattle.buffers.specs.Bytes.{words_of}
use Rattle.theorems.proofs.ValidModel.{valid-model}
use Rattle.demands.specs.Demands.{Demand1, Demand2, Demand3}
use Rattle.demands.proofs.AreaBack.{area-fetches, area-one}
use Rattle.demands.proofs.Demand1.{check-answered, read-answered, write-answered, set-answered, bits-answered}
use Rattle.demands.proofs.Demand2.{accepts_only, accepts_all, writes_only, writes_all, writes-back, rewrites}
use Rattle.demands.proofs.Demand3.{second_accepts, only_first_accepts}

pub demand1 : Demand1
demand1 = record {
  check = check-answered;
  read = read-answered;
  write = write-answered;
  set = set-answered;
  bits = bits-answered;
  fetches = area-fetches;
  one_area = area-one;
}

pub demand2 : Demand2
demand2 = record {
  accepts_only = accepts_only;
  accepts_all = accepts_all;
  valid_by_table = λ t party name type mode E X. valid-model (words_of t) party name type mode (words_of E) X;
  writes_only = writes_only;
  writes_all = writes_all;
  writes-back = writes-back;
  rewrites = rewrites;
}

pub demand3 : Demand3
demand3 = record { second_accepts = second_accepts; only_first_accepts = only_first_accepts }
