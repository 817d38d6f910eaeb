-- These links tell no bytes, and so whatever is said of bytes that are told holds.
use Rattle.bt_real.proofs.tcp_links.TcpLinksLinks.TheImpl.Goals as goal

pub next-tells : goal.next-tells
next-tells g c = record {
  ok = λ told. absurd told;
  err = λ told. absurd told;
  noted = λ told. absurd told;
  faults = c.ensures.faults;
  next_faults = c.ensures.next_faults;
}

pub read-tells : goal.read-tells
read-tells g c = record {
  count = c.ensures.count;
  bytes = λ told. absurd told;
  end = λ told. absurd told;
  err = λ told. absurd told;
  noted = λ told. absurd told;
  left = λ told. absurd told;
  sent = λ told. absurd told;
  mark = λ told. absurd told;
  faults = c.ensures.faults;
  next_faults = c.ensures.next_faults;
}

pub write-tells : goal.write-tells
write-tells g c = record {
  ok = λ told. absurd told;
  err = λ told. absurd told;
  noted = λ told. absurd told;
  at_hand = λ told. absurd told;
  left = λ told. absurd told;
  faults = c.ensures.faults;
  next_faults = c.ensures.next_faults;
}
