mod Ports
