use Rattle.fr_capture.specs.Pcap.{file_header}
use Rattle.fr_endless.proofs.TapLemmas.{front_absent}
use Rattle.fr_endless.proofs.taps.write_header.Goals as goal

pub returns-in_default : goal.returns-in_default
returns-in_default g c = front_absent g.F.Write.contents c.args.file.now file_header c.in_default.is
